use Rattle.std.proofs.Common.{◌≡◌, take}
use Rattle.ground_step.specs.Steps.{steps_of}
use Rattle.ground_step.proofs.run.Run.copy.Given as goal

abbrev pub invariant-loop-step : goal.invariant-loop-step
invariant-loop-step g l = steps_of l.steps ≡ steps_of (take l.step-index l.step-items)
