use Rattle.data_value.proofs.ValuationLemmas.{valuation_parts, parts_join, valuations_join, some_valuation}
use Rattle.data_value.proofs.laws.valuations_join.Goals as goal

pub returns-clause-parts : goal.returns-clause-parts
returns-clause-parts c = λ ss ts v. (valuation_parts ss ts v, parts_join ss ts v)

pub returns-clause-whole : goal.returns-clause-whole
returns-clause-whole c = valuations_join

pub returns-clause-every : goal.returns-clause-every
returns-clause-every c = some_valuation
