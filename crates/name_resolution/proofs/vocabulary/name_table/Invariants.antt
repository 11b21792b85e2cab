use Rattle.std.proofs.Common.{◌≡◌, map, take}
use Rattle.name_resolution.proofs.vocabulary.name_table.Given as goal

-- the names so far
abbrev pub invariant-loop-item : goal.invariant-loop-item
invariant-loop-item g l = l.table ≡ map g.T.Named.name_of (take l.item-index l.items)
