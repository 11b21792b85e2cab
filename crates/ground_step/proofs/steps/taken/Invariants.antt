use Rattle.std.proofs.Common.{take, All}
use Rattle.ground_step.specs.Steps.{IsTrueBranch}
use Rattle.ground_step.proofs.steps.taken.Given as goal

abbrev pub invariant-loop-place : goal.invariant-loop-place
invariant-loop-place g l = All (λ b. ¬ IsTrueBranch b) (take l.place l.branches)
