use Rattle.semantics_load.proofs.OneText.{one_text_fault}
use Rattle.semantics_load.proofs.laws.text_has_one_fault.Goals as goal

pub returns : goal.returns
returns c = one_text_fault
