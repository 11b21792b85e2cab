use Rattle.rule_text.proofs.ItemShapes.{parts_of}
use Rattle.rule_text.proofs.shape.points_item.Goals as goal

pub returns-in-Some-clause-refused : goal.returns-in-Some-clause-refused
returns-in-Some-clause-refused c = λ u i w. c.cut_item.ensures.refused u i (parts_of _ _ _ _ i (λ k. cc) c.in-Some.ensures.some w)

pub returns-in-Some-behind-clause-refused : goal.returns-in-Some-behind-clause-refused
returns-in-Some-behind-clause-refused c = λ u i w. c.point_item.ensures.refused u i (parts_of _ _ _ _ i (λ k. cc) c.in-Some-behind.ensures.some w)
