use Rattle.sexp_text.proofs.Sound.{text_faultless}
use Rattle.sexp_text.proofs.laws.text_is_faultless.Goals as goal

pub returns : goal.returns
returns c = text_faultless
