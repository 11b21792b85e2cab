use Rattle.std.proofs.Common.{rules}
use Rattle.rule_text.proofs.shape.opening.Goals as goal

pub returns-in_err-name-clause-refused : goal.returns-in_err-name-clause-refused
returns-in_err-name-clause-refused c = λ u x w. c.in_err-name.ensures.refused (search rules) x.0 w.named
