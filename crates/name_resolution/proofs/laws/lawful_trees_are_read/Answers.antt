use Rattle.name_resolution.proofs.LawfulTrees.{patterns_there, expressions_there, terms_there}
use Rattle.name_resolution.proofs.laws.lawful_trees_are_read.Goals as goal

pub returns-clause-patterns : goal.returns-clause-patterns
returns-clause-patterns c = patterns_there

pub returns-clause-expressions : goal.returns-clause-expressions
returns-clause-expressions c = expressions_there

pub returns-clause-terms : goal.returns-clause-terms
returns-clause-terms c = terms_there
