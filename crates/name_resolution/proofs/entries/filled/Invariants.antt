use Rattle.std.proofs.Common.{◌≡◌, ◌==◌, take, filter}
use Rattle.std.specs.Prelude.{not}
use Rattle.name_resolution.proofs.entries.filled.Given as goal

-- the map has the entries so far
abbrev pub invariant-loop-entry : goal.invariant-loop-entry
invariant-loop-entry l = l.map ≡ record { key_width = l.key; word_width = l.word; entries = filter (λ e. not (e.1 == 0)) (take l.entry-index l.entries) }
