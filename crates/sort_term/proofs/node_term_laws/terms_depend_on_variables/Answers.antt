use Rattle.sort_term.proofs.NodeTerming.{depend_law}
use Rattle.sort_term.proofs.node_term_laws.terms_depend_on_variables.Goals as goal

pub returns : goal.returns
returns g c = depend_law _
