use Rattle.sort_term.proofs.Sorting.{expr_keeps, pattern_keeps}
use Rattle.sort_term.proofs.sort_laws.values_keep_sorts.Goals as goal

pub returns-clause-exprs : goal.returns-clause-exprs
returns-clause-exprs c = λ cons vars v a e f h. record { is = expr_keeps cons vars v f e a h.is }

pub returns-clause-patterns : goal.returns-clause-patterns
returns-clause-patterns c = λ cons vars v a p f h. record { is = pattern_keeps cons vars v f p a h.is }
