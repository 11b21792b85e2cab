use Rattle.std.proofs.Common.{rules, arith, ◌≡◌, ◌<◌, ◌∷◌, [], ◌∙◌, ℕ, List, length, IsTrue, IsSome, Some, sym, subst, refl}
use Rattle.data_value.specs.Ground.{ground_seen}
use Rattle.sort_term.specs.declared.rule.Pattern.{Pattern}
use Rattle.sort_term.specs.declared.rule.Var.{Var}
use Rattle.sort_term.specs.declared.term.Sort.TheVariants.{Own}
use Rattle.sort_term.specs.Sorted.{expr_sort}
use Rattle.sort_term.specs.Stands.{times, StandsIn}
use Rattle.sort_term.proofs.Declared.{declares}
use Rattle.unify.specs.Binds.{seen_binds}
use Rattle.unify.proofs.Binding.{binds_valid}
use Rattle.unify.proofs.Filled.{sort_bound}
use Rattle.machine_examples.proofs.matching.evaluated.Goals as goal

-- what stands in one pattern stands there
stands_alone : (i : ℕ) (p : Pattern) → StandsIn i (p ∷ []) → 0 < times i p
stands_alone i p h = omega (arith, h)

pub evaluate-requires-clause-valid : goal.evaluate-requires-clause-valid
evaluate-requires-clause-valid c = binds_valid _ _ _ c.requires.lawful

pub evaluate-requires-clause-sorted : goal.evaluate-requires-clause-sorted
evaluate-requires-clause-sorted c =
    let sys = c.args.semantics.now in
    let vars = c.args.rule.now.vars in
    let head = c.args.rule.now.head in
    let e = c.args.rule.now.result in
    let is_expr : IsTrue c.is_expr_of.result = search rules in
    let all : IsTrue c.all_stand_in.result = search rules in
    let sorted : expr_sort sys.cons vars e ≡ Some (Own sys.config) = search rules in
    let below : (i : ℕ) → i < length vars → i < length c.as_slice-vars.result.now = λ i. subst (λ (w : List Var). i < length w) (sym c.as_slice-vars.ensures) in
    let stands : (i : ℕ) → i < length vars → 0 < times i head = λ i h. stands_alone i head ((c.all_stand_in.ensures.0 all).each i (below i h)) in
    let is = sort_bound sys.cons vars (seen_binds ground_seen c.args.binds.now) e c.requires.lawful
    (λ i r. c.requires.bound i (stands i (declares sys.cons vars e (subst IsSome (sym sorted) refl) i r))) ∙ sorted in
    subst IsSome (sym is) refl
