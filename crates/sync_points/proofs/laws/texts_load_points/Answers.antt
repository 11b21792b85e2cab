use Rattle.sync_points.proofs.Drafts.{texts_are_lawful}
use Rattle.sync_points.proofs.laws.texts_load_points.Goals as goal

pub returns : goal.returns
returns c = texts_are_lawful
