use Rattle.data_value.proofs.TestLemmas.{decides_value, decides_in_range, decides_sort, decides_scalar}
use Rattle.data_value.proofs.laws.tests_tell.Goals as goal

pub returns-clause-values : goal.returns-clause-values
returns-clause-values c = decides_value

pub returns-clause-in_range : goal.returns-clause-in_range
returns-clause-in_range c = decides_in_range

pub returns-clause-sorts : goal.returns-clause-sorts
returns-clause-sorts c = decides_sort

pub returns-clause-scalars : goal.returns-clause-scalars
returns-clause-scalars c = decides_scalar
