use Rattle.semantics_load.proofs.Drafts.{text_makes_semantics}
use Rattle.semantics_load.proofs.laws.texts_load_semantics.Goals as goal

pub returns : goal.returns
returns c = text_makes_semantics
