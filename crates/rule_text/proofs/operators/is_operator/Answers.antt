use Rattle.rule_text.specs.Operators.{is_operator}
use Rattle.rule_text.proofs.operators.is_operator.Goals as goal

pub returns : goal.returns
unfolding is_operator
returns c = c.is_among.ensures
