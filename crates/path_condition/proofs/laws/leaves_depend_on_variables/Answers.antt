use Rattle.path_condition.proofs.LeafLemmas.{depend_law_of_leaves}
use Rattle.path_condition.proofs.laws.leaves_depend_on_variables.Goals as goal

pub returns : goal.returns
returns g c = depend_law_of_leaves _ _
