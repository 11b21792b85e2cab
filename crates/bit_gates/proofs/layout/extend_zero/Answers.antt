use Rattle.std.proofs.Common.{◌∙◌}
use Rattle.std.proofs.lemmas.Result.{IfOk-weaker}
use Rattle.bit_gates.proofs.LayoutLemmas.{is_wide}
use Rattle.bit_gates.proofs.layout.extend_zero.Goals as goal

pub returns : goal.returns
returns c = IfOk-weaker c.join.result _ _
    (λ v h. is_wide c.args.b.now c.args.x.now c.as_slice.result.now v c.constant.result c.args.width c.requires.x c.requires.wider c.constant.ensures (c.as_slice.ensures ∙ c.in_ok-zeros.ensures) h)
    c.join.ensures
