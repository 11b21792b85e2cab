use Rattle.semantics_load.proofs.OneText.{one_semantics}
use Rattle.semantics_load.proofs.laws.text_is_of_one_semantics.Goals as goal

pub returns : goal.returns
returns c = one_semantics
