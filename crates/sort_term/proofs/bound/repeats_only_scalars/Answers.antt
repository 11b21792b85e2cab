use Rattle.std.proofs.Common.{arith, ◌≡◌, ◌<◌, ◌∷◌, IsTrue, slice_get, Some, refl, sym, ap, ◌∙◌, below_more}
use Rattle.sort_term.specs.declared.rule.Var.{Var}
use Rattle.sort_term.specs.Stands.{times_in, let_patterns}
use Rattle.sort_term.specs.Signature.{is_scalar_own}
use Rattle.sort_term.proofs.Standing.{get-below, get-is}
use Rattle.sort_term.proofs.bound.repeats_only_scalars.Goals as goal
use Rattle.sort_term.proofs.bound.repeats_only_scalars.Goals.{else-times_in-gt1-via-then-times_in-gt1+else-not-is_scalar, else-times_in-gt1-via-else-times_in-gt1}

pub loop-i-preserved : goal.loop-i-preserved
loop-i-preserved c =
    let here : (x : Var) → slice_get c.args.vars.now c.loop-i.i ≡ Some x → 1 < times_in c.loop-i.i (c.args.pattern.now ∷ let_patterns c.args.demands.now) → IsTrue (is_scalar_own x.sort) =
    λ x h m. elim c.else-times_in-gt1.branch [
      | else-times_in-gt1-via-then-times_in-gt1+else-not-is_scalar w ↦ ap (λ (y : Var). is_scalar_own y.sort) (sym (get-is c.args.vars.now c.loop-i.i x w.index-vars-i.result h)) ∙ sym w.is_scalar.ensures ∙ w.if-not-is_scalar.false
      | else-times_in-gt1-via-else-times_in-gt1 w ↦ absurd (omega (arith, c.times_in.ensures, w.if-times_in-gt1.false))
    ] in
    below_more _ _ c.loop-i.invariant here

pub returns : goal.returns
returns c = (λ _. record { each = λ i x h m. c.loop-i.invariant i (let l = get-below c.args.vars.now i x h in omega (arith, l, c.loop-i-test.false)) x h m }, λ _. refl)
