use Rattle.data_value.proofs.KeyLemmas.{decides_op_eq, decides_mapping_eq, decides_value_eq}
use Rattle.data_value.proofs.laws.equals_are_equal.Goals as goal

pub returns-clause-operators : goal.returns-clause-operators
returns-clause-operators c = decides_op_eq

pub returns-clause-maps : goal.returns-clause-maps
returns-clause-maps c = decides_mapping_eq

pub returns-clause-values : goal.returns-clause-values
returns-clause-values c = decides_value_eq
