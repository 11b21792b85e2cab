use Rattle.sort_term.proofs.StepSorts.{step_states}
use Rattle.sort_term.proofs.StepRuns.{run_states}
use Rattle.sort_term.proofs.sort_laws.steps_keep_states.Goals as goal

pub returns : goal.returns
returns c = record { steps = step_states; runs = run_states }
