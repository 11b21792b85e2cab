use Rattle.sexp_text.proofs.Apart.{apart}
use Rattle.sexp_text.proofs.laws.faults_are_apart.Goals as goal

pub returns : goal.returns
returns c = apart
