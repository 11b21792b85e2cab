use Rattle.rule_text.proofs.ItemShapes.{parts_of}
use Rattle.rule_text.proofs.shape.program_item.Goals as goal

pub returns-in-Some-clause-refused : goal.returns-in-Some-clause-refused
returns-in-Some-clause-refused c = λ u i w. c.row_item.ensures.refused u i (parts_of _ _ _ _ i (λ k. cc) c.in-Some.ensures.some w)
