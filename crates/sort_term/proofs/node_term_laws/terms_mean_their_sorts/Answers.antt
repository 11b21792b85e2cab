use Rattle.sort_term.proofs.NodeTerming.{sort_law}
use Rattle.sort_term.proofs.node_term_laws.terms_mean_their_sorts.Goals as goal

pub returns : goal.returns
returns g c = sort_law g.row.N.Denot
