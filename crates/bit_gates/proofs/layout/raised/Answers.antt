use Rattle.std.proofs.Common.{◌∙◌, refl}
use Rattle.std.proofs.lemmas.Result.{IfOk-weaker}
use Rattle.bit_gates.proofs.LayoutLemmas.{is_raised}
use Rattle.bit_gates.proofs.layout.raised.Goals as goal

pub returns : goal.returns
returns c = IfOk-weaker c.join.result _ _
    (λ v h. is_raised c.args.b.now c.args.x.now c.as_slice.result.now _ v c.constant.result c.args.count c.requires.x c.requires.within c.constant.ensures (c.as_slice.ensures ∙ c.in_ok-zeros.ensures) refl h)
    c.join.ensures
