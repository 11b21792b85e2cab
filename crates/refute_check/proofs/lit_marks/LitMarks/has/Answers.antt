use Rattle.std.proofs.Common.{◌∙◌, ap}
use Rattle.refute_check.specs.Sets.{LitTable, marked}
use Rattle.refute_check.proofs.SetLemmas.{marked_positive, marked_negative}
use Rattle.refute_check.proofs.lit_marks.LitMarks.has.Goals as goal

pub returns-then-lit : goal.returns-then-lit
returns-then-lit c =
    c.has.ensures ∙ marked_positive (record { positive = c.self.inside.positive; negative = c.self.inside.negative }) c.args.lit c.if-lit.true
    ∙ ap (λ (m : LitTable). marked m c.args.lit) c.self.view_is

pub returns-else-lit : goal.returns-else-lit
returns-else-lit c =
    c.has-else-lit.ensures ∙ marked_negative (record { positive = c.self.inside.positive; negative = c.self.inside.negative }) c.args.lit c.if-lit.false
    ∙ ap (λ (m : LitTable). marked m c.args.lit) c.self.view_is
