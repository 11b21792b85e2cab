use Rattle.std.proofs.Common.{◌≡◌, ◌∷◌, [], ap₂, ap, sym, refl, ◌∙◌}
use Rattle.std.proofs.lemmas.Result.{IfOk-weaker}
use Rattle.data_value.specs.declared.DataSort.TheVariants.{Bool as BoolSort}
use Rattle.data_value.specs.declared.Scalar.TheVariants.{Flag}
use Rattle.data_value.specs.declared.flat_formula.FlatNode.TheVariants.{Fixed}
use Rattle.data_value.specs.declared.Op.TheVariants.{Eq}
use Rattle.data_value.specs.Values.{same_scalar}
use Rattle.map_reads.proofs.Drafting.{applied, pushed, value_as}
use Rattle.map_reads.proofs.Equality.{eq_is_same}
use Rattle.map_reads.proofs.Sorting.{equality_of, two_at}
use Rattle.map_reads.proofs.draft.Draft.equal.Goals as goal

pub returns-in-Some-Some : goal.returns-in-Some-Some
returns-in-Some-Some c =
    let h = c.in-Some-Some in
    let old = c.args.self.now in
    let new = c.push.new.self in
    let told : c.eq.result ≡ same_scalar h.x h.y = c.eq.ensures ∙ eq_is_same h.x h.y in
    IfOk-weaker c.push.result _ _
    (λ p is t draft scalar a b.
    value_as old new p BoolSort _ _ (pushed old new p (Fixed (Flag c.eq.result)) draft is BoolSort refl)
    (λ words. ap (λ x. Flag x) told ∙ ap₂ (λ x y. Flag (same_scalar x y)) (sym (h.ensures words)) (sym (h.ensures' words))))
    c.push.ensures

pub returns-in_default : goal.returns-in_default
returns-in_default c =
    let old = c.args.self.now in
    IfOk-weaker c.apply.result _ _
    (λ p is t draft scalar a b. applied old c.apply.new.self p Eq (c.args.a ∷ c.args.b ∷ []) (t ∷ t ∷ []) BoolSort draft is (two_at a b) (equality_of t scalar))
    c.apply.ensures
