use Rattle.data_value.proofs.OpLemmas.{operator_keeps_sort, scalar_op_value, scalar_keeps_sort}
use Rattle.data_value.proofs.laws.operators_keep_sorts.Goals as goal

pub returns-clause-values : goal.returns-clause-values
returns-clause-values c = operator_keeps_sort

pub returns-clause-scalars : goal.returns-clause-scalars
returns-clause-scalars c = λ op args s a e. (scalar_op_value op args s e, scalar_keeps_sort op args s a e)
