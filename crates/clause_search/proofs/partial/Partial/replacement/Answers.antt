use Rattle.std.proofs.Common.{◌≡◌, ◌||◌, ◌+◌, ◌∙◌, sym, subst, true, false, get_or, List, take, refl}
use Rattle.refute_check.specs.declared.lit.Lit.{Lit}
use Rattle.refute_check.specs.Literals.{same_lit}
use Rattle.std.proofs.lemmas.Bool.{or_left, or_right}
use Rattle.clause_search.specs.Partial.{lit_value, is_false, false_but}
use Rattle.clause_search.proofs.ClauseLemmas.{false_but_none, false_but_more}
use Rattle.clause_search.proofs.partial.Partial.replacement.Goals as goal
use Rattle.clause_search.proofs.partial.Partial.replacement.Goals.{then-is_same, else-is_same}

pub loop-other-init : goal.loop-other-init
loop-other-init c = false_but_none c.args.self.now c.args.lit

pub loop-other-preserved : goal.loop-other-preserved
loop-other-preserved c =
    let p = c.args.self.now in
    let ls = c.as_slice-other-items.result.now in
    let i = c.loop-other.other-index in
    let before = subst (λ (d : List Lit). false_but p c.args.lit (take i d) ≡ true) (sym c.as_slice-other-items.ensures) c.loop-other.invariant in
    let x : Lit = get_or ls i (record { var = 0; positive = false }) in
    let here : (same_lit c.args.lit x || is_false (lit_value p x)) ≡ true = elim c.if-is_same.branch [
      | then-is_same w ↦ or_left (same_lit c.args.lit x) _ (sym c.is_same.ensures ∙ w.if-is_same.true)
      | else-is_same w ↦ or_right (same_lit c.args.lit x) _ (sym w.makes_false.ensures ∙ sym w.value-is ∙ c.if-not-makes_false.false)
    ] in
    let more = false_but_more p c.args.lit ls i _ _ c.loop-other-test.true refl before here in
    subst (λ (d : List Lit). false_but p c.args.lit (take (i + 1) d) ≡ true) c.as_slice-other-items.ensures more
