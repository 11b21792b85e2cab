use Rattle.sort_term.proofs.GroundTerms.{ground_sort, ground_tree}
use Rattle.sort_term.proofs.node_term_laws.ground_terms_are_trees.Goals as goal

pub returns-clause-sorts : goal.returns-clause-sorts
returns-clause-sorts c = ground_sort

pub returns-clause-meanings : goal.returns-clause-meanings
returns-clause-meanings c = λ t v. ground_tree v t
