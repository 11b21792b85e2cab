use Rattle.rule_text.specs.Operators.{is_operator}
use Rattle.rule_text.proofs.operators.operator.Goals as goal

pub returns-clause-some : goal.returns-clause-some
unfolding is_operator
returns-clause-some c = c.counts.ensures.some

pub returns-clause-none : goal.returns-clause-none
unfolding is_operator
returns-clause-none c = c.counts.ensures.none
