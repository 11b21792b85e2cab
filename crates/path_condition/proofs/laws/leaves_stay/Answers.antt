use Rattle.path_condition.proofs.LeafLemmas.{stay_law}
use Rattle.path_condition.proofs.laws.leaves_stay.Goals as goal

pub returns : goal.returns
returns g c = stay_law _ _
