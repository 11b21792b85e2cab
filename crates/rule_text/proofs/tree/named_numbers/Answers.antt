use Rattle.std.proofs.Common.{rules}
use Rattle.rule_text.proofs.TreeShapes.{some_count, numbers_of, numbers_written}
use Rattle.rule_text.proofs.tree.named_numbers.Goals as goal

pub returns-in_err-name-clause-refused : goal.returns-in_err-name-clause-refused
returns-in_err-name-clause-refused c = λ u x w. c.in_err-name.ensures.refused (search rules) x.0 w.name

pub returns-in_default-clause-refused : goal.returns-in_default-clause-refused
returns-in_default-clause-refused c = λ u x w. some_count _ _ _ _ c.in_ok-name.ensures.ok (c.in_default.ensures.none (search rules)) x w

pub returns-in-Err-clause-refused : goal.returns-in-Err-clause-refused
returns-in-Err-clause-refused c =
    λ u x w. c.in-Err.ensures.refused (search rules) x.1 (numbers_of _ _ _ _ c.in_ok-name.ensures.ok c.in-Some.count c.in-Some.ensures.some.0 c.in-Some.ensures.some.1 x w)

pub returns-in-Ok-clause-ok : goal.returns-in-Ok-clause-ok
returns-in-Ok-clause-ok c = numbers_written _ _ _ _ c.in_ok-name.ensures.ok c.in-Some.count c.in-Some.ensures.some.0 c.in-Some.ensures.some.1 _ c.in-Ok.ensures.ok
