use Rattle.std.proofs.Common.{◌≡◌, map, take}
use Rattle.ground_step.specs.Fit.{some_plain}
use Rattle.ground_step.proofs.relation.valuation.Given as goal

abbrev pub invariant-loop-bound : goal.invariant-loop-bound
invariant-loop-bound l = map some_plain l.values ≡ take l.bound-index l.bound-items
