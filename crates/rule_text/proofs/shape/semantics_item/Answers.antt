use Rattle.rule_text.proofs.ItemShapes.{parts_of}
use Rattle.rule_text.proofs.shape.semantics_item.Goals as goal

pub returns-in-Some-clause-refused : goal.returns-in-Some-clause-refused
returns-in-Some-clause-refused c = λ u i w. c.sort_item.ensures.refused u i (parts_of _ _ _ _ i (λ k. cc) c.in-Some.ensures.some w)

pub returns-in-Some-behind-clause-refused : goal.returns-in-Some-behind-clause-refused
returns-in-Some-behind-clause-refused c = λ u i w. c.con_item.ensures.refused u i (parts_of _ _ _ _ i (λ k. cc) c.in-Some-behind.ensures.some w)

pub returns-in-Some-behind-2-clause-refused : goal.returns-in-Some-behind-2-clause-refused
returns-in-Some-behind-2-clause-refused c = λ u i w. c.table_item.ensures.refused u i (parts_of _ _ _ _ i (λ k. cc) c.in-Some-behind-2.ensures.some w)

pub returns-in-Some-behind-3-clause-refused : goal.returns-in-Some-behind-3-clause-refused
returns-in-Some-behind-3-clause-refused c = λ u i w. c.config_item.ensures.refused u i (parts_of _ _ _ _ i (λ k. cc) c.in-Some-behind-3.ensures.some w)

pub returns-in-Some-behind-4-clause-refused : goal.returns-in-Some-behind-4-clause-refused
returns-in-Some-behind-4-clause-refused c = λ u i w. c.rule_item.ensures.refused u i (parts_of _ _ _ _ i (λ k. cc) c.in-Some-behind-4.ensures.some w)
