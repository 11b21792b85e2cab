use Rattle.ground_step.proofs.Witnessed.{right_is_verdict}
use Rattle.ground_step.proofs.verdict_laws.right_verdicts_are_verdicts.Goals as goal

pub returns : goal.returns
returns c = right_is_verdict
