use Rattle.std.proofs.Common.{◌≡◌, ◌+◌, ◌-◌, ◌∙◌, length, arith}
use Rattle.std.proofs.lemmas.Result.{IfOk-weaker}
use Rattle.bit_gates.proofs.RangeLemmas.{clause_below_get}
use Rattle.bit_gates.proofs.LayoutLemmas.{is_signed_wide, with_last}
use Rattle.bit_gates.proofs.layout.extend_sign.Goals as goal

pub returns : goal.returns
returns c =
    let u : length c.args.x.now - 1 + 1 ≡ length c.args.x.now = omega arith in
    IfOk-weaker c.join.result _ _
    (λ v h. is_signed_wide c.args.b.now c.args.x.now c.as_slice.result.now v _ c.args.width (length c.args.x.now - 1) c.requires.x u c.requires.wider
    (clause_below_get c.args.b.now.clauses.vars c.args.x.now (length c.args.x.now - 1) _ c.requires.x (omega arith))
    (with_last c.args.x.now (length c.args.x.now - 1) _ u) (c.as_slice.ensures ∙ c.in_ok-signs.ensures) h)
    c.join.ensures
