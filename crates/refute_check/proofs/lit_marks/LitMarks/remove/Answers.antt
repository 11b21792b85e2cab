use Rattle.refute_check.proofs.SetLemmas.{take_positive, take_negative}
use Rattle.refute_check.proofs.lit_marks.LitMarks.remove.Goals as goal

pub returns-then-lit : goal.returns-then-lit
returns-then-lit c = rw (← c.self.view_is) (take_positive (record { positive = c.self.inside.positive; negative = c.self.inside.negative }) c.remove.new.self c.args.lit c.if-lit.true c.remove.ensures)

pub returns-else-lit : goal.returns-else-lit
returns-else-lit c = rw (← c.self.view_is) (take_negative (record { positive = c.self.inside.positive; negative = c.self.inside.negative }) c.remove-else-lit.new.self c.args.lit c.if-lit.false c.remove-else-lit.ensures)
