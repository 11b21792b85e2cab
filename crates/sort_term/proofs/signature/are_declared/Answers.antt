use Rattle.std.proofs.Common.{arith, ◌≡◌, slice_get, take, Some, refl, ◌∙◌, subst, below_more}
use Rattle.sort_term.specs.declared.semantics.Con.{Con}
use Rattle.sort_term.specs.Signature.{IsCon}
use Rattle.sort_term.proofs.Standing.{get-below, get-is}
use Rattle.sort_term.proofs.signature.are_declared.Goals as goal

pub loop-k-preserved : goal.loop-k-preserved
loop-k-preserved c =
    let here : (d : Con) → slice_get c.args.cons.now c.loop-k.k ≡ Some d → IsCon c.args.sorts.now (take c.loop-k.k c.args.cons.now) d =
    λ d h. subst (IsCon c.args.sorts.now (take c.loop-k.k c.args.cons.now)) (c.index-cons-k.is ∙ get-is c.args.cons.now c.loop-k.k d c.index-cons-k.result h) (c.is_con.ensures.0 c.if-not-is_con.false) in
    below_more _ _ c.loop-k.invariant here

pub returns : goal.returns
returns c = (λ _. record { each = λ k d h. c.loop-k.invariant k (let l = get-below c.args.cons.now k d h in omega (arith, l, c.loop-k-test.false)) d h }, λ _. refl)
