use Rattle.ground_step.specs.Steps.{steps_of}
use Rattle.ground_step.proofs.Listing.{AreStepsBelow}
use Rattle.ground_step.proofs.steps.successors.Given as goal

abbrev pub invariant-loop-place : goal.invariant-loop-place
invariant-loop-place g l = AreStepsBelow l.semantics l.program l.state.term l.place (steps_of l.steps)
