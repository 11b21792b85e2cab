use Rattle.semantics_load.proofs.OneText.{no_semantics_and_fault}
use Rattle.semantics_load.proofs.laws.text_has_no_value_and_fault.Goals as goal

pub returns : goal.returns
returns c = no_semantics_and_fault
