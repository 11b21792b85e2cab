use Rattle.sort_term.proofs.Agreeing.{one_instance, one_step}
use Rattle.sort_term.proofs.StepRuns.{one_run}
use Rattle.sort_term.proofs.run_laws.rule_steps_are_unique.Goals as goal

pub returns : goal.returns
returns c = record { instance = one_instance; step = one_step; runs = one_run }
