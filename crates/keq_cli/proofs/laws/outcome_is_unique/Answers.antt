use Rattle.keq_cli.proofs.OneOutcome.{one_outcome}
use Rattle.keq_cli.proofs.laws.outcome_is_unique.Goals as goal

pub returns : goal.returns
returns c = one_outcome
