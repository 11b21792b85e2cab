use Rattle.sort_term.proofs.NodeTerming.{stay_law, valid_law}
use Rattle.sort_term.proofs.node_term_laws.terms_stay.Goals as goal

pub returns-clause-stay : goal.returns-clause-stay
returns-clause-stay g c = stay_law g.row.N.Denot

pub returns-clause-valid : goal.returns-clause-valid
returns-clause-valid g c = valid_law g.row.N.Denot
