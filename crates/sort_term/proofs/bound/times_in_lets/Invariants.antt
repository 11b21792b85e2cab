use Rattle.std.proofs.Common.{◌≡◌, min, take}
use Rattle.sort_term.specs.Stands.{times_in, let_patterns}
use Rattle.sort_term.proofs.bound.times_in_lets.Given as goal

abbrev pub invariant-loop-demand : goal.invariant-loop-demand
invariant-loop-demand l = l.count ≡ min (times_in l.i (let_patterns (take l.demand-index l.demands))) 2
