use Rattle.std.proofs.Common.{◌≡◌, [], map, take}
use Rattle.program_text.proofs.program_draft.no_row_lists.Given as goal

-- one for each of the tables so far
abbrev pub invariant-loop-table : goal.invariant-loop-table
invariant-loop-table l = l.lists.items ≡ map (λ _. []) (take l._table-index l.tables)
