use Rattle.sort_term.proofs.VerdictLemmas.{one_verdict}
use Rattle.sort_term.proofs.run_laws.verdict_is_unique.Goals as goal

pub returns : goal.returns
returns c = one_verdict
