use Rattle.sexp_text.proofs.Reread.{printed_read}
use Rattle.sexp_text.proofs.laws.printed_forms_are_read.Goals as goal

pub returns : goal.returns
returns c = printed_read
