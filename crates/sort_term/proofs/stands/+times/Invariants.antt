use Rattle.std.proofs.Common.{◌≡◌, min, take}
use Rattle.sort_term.specs.Stands.{times_in}
use Rattle.sort_term.proofs.stands.+times.Given as goal

abbrev pub invariant-times_in-loop-pattern : goal.invariant-times_in-loop-pattern
invariant-times_in-loop-pattern l = l.count ≡ min (times_in l.i (take l.pattern-index l.patterns)) 2
