use Rattle.std.proofs.Common.{◌≡◌, take, length, true}
use Rattle.ground_step.specs.Fit.{DeterminesAll}
use Rattle.ground_step.proofs.relation.+determine.Given as goal

abbrev pub invariant-determine_all-loop-i : goal.invariant-determine_all-loop-i
invariant-determine_all-loop-i l = (length l.terms ≡ length l.trees) × DeterminesAll l.initial.binds l.binds true (take l.i l.terms) (take l.i l.trees)
