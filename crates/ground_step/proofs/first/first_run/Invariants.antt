use Rattle.ground_step.specs.Reach.{run_of}
use Rattle.ground_step.proofs.FirstRuns.{IsFirstSoFar}
use Rattle.ground_step.proofs.first.first_run.Given as goal

abbrev pub invariant-loop-step : goal.invariant-loop-step
invariant-loop-step g l = IsFirstSoFar l.semantics l.program l.start.term l._step (run_of l.run)
