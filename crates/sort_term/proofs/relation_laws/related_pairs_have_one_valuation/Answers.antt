use Rattle.sort_term.proofs.Arguments.{one_relation}
use Rattle.sort_term.proofs.relation_laws.related_pairs_have_one_valuation.Goals as goal

pub returns : goal.returns
returns c = one_relation
