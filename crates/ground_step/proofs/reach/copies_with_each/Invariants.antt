use Rattle.std.proofs.Common.{◌≡◌, take}
use Rattle.ground_step.specs.Steps.{steps_of}
use Rattle.ground_step.specs.Reach.{run_of, runs_of, with_each}
use Rattle.ground_step.proofs.reach.copies_with_each.Given as goal

abbrev pub invariant-loop-step : goal.invariant-loop-step
invariant-loop-step g l = runs_of l.runs.items ≡ with_each (run_of l.run) (steps_of (take l.step-index l.steps))
