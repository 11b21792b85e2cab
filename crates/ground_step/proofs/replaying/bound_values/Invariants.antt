use Rattle.std.proofs.Common.{◌≡◌, map, take}
use Rattle.ground_step.specs.Fit.{some_plain}
use Rattle.ground_step.proofs.replaying.bound_values.Given as goal

-- the values so far are bound
abbrev pub invariant-loop-value : goal.invariant-loop-value
invariant-loop-value l = l.binds ≡ map some_plain (take l.value-index l.values)
