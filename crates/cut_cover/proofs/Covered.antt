-- Where an item of a cut covers a state, from what makes its pattern equal to the configuration.
use Rattle.std.proofs.Common.{◌≡◌, ℕ, ◌<◌, true, false, ◌&&◌, List, length, get_or, Option, IsSome, All, refl, sym, ◌∙◌, subst}
use Rattle.std.proofs.lemmas.Bool.{and_parts, and_from}
use Rattle.data_value.specs.declared.DataSort.{DataSort}
use Rattle.data_value.specs.declared.Value.{Value}
use Rattle.data_value.specs.Nodes.{Seen, IsLawful, IsValuation}
use Rattle.data_value.specs.Truth.{truth, all_true, IsTruth}
use Rattle.data_value.proofs.TruthLemmas.{decides_all}
use Rattle.sort_term.specs.declared.points.Cut.{Cut}
use Rattle.sort_term.specs.declared.term.Term.{Term}
use Rattle.sort_term.specs.System.{System}
use Rattle.sort_term.specs.Cuts.{AllTrue, IsCovered}
use Rattle.sort_term.specs.Problems.{IsCut}
use Rattle.sort_term.specs.NodeTerms.{tree_of}
use Rattle.sort_term.proofs.Declared.{declares, only_in}
use Rattle.unify.specs.Binds.{seen_binds, IsBound}
use Rattle.unify.specs.Meets.{AreApart, AreUnified}
use Rattle.unify.specs.Scopes.{scope_of}
use Rattle.unify.proofs.Filled.{filled, filled_agrees, filled_long, agreeing_fits, sort_bound}
use Rattle.cut_cover.specs.Conditions.{IsBoundCondition, IsTrueWhere}
use Rattle.cut_cover.specs.Outside.{IsCovering}

module _ {S N : Type 0} (variables : List DataSort) (sys : System) (item : Cut S) (t : Term (Seen N)) (checked : IsCut sys item) where
  -- what is apart is covered nowhere
  pub apart_covers : AreApart item.pattern t → (s : Seen N) → IsTruth s (λ v. false) → IsCovering variables sys.cons item t s
  apart_covers apart s is = record {
    condition = is.condition;
    exact = λ v fits. (λ h. absurd (let no : false ≡ true = sym (is.means v) ∙ h in cc), λ x. absurd (apart.never v x.0 x.1.pattern));
  }

  module _ (f : N → Seen N) (binds : List (Option (Term N))) (equations : List (Seen N)) (met : AreUnified (scope_of sys.cons item.vars variables) item.pattern t (seen_binds f binds) equations) where
    all_bound : (i : ℕ) → i < length item.vars → IsBound (seen_binds f binds) i
    all_bound i l = (met.bound i).1 (only_in i item.pattern (checked.bound.each i l))

    pub whens_bound : All (IsBoundCondition sys.cons (seen_binds f binds)) item.whens
    whens_bound k d l =
        let is = (checked.whens.sorted k d l).is in
        let some : IsSome _ = subst IsSome (sym is) refl in
        record { sorted = sort_bound sys.cons item.vars (seen_binds f binds) (get_or item.whens k d) met.lawful (λ i r. all_bound i (declares sys.cons item.vars (get_or item.whens k d) some i r)) ∙ is }

    -- covered exactly where all equations and all conditions are true
    pub meets_covers : IsLawful f variables → (equal holding s : Seen N) → IsTruth equal (all_true equations) → IsTrueWhere (seen_binds f binds) (λ w. AllTrue w item.whens) holding → IsTruth s (λ v. truth equal v && truth holding v) → IsCovering variables sys.cons item t s
    meets_covers laws equal holding s all holds joins = record { condition = joins.condition; exact = λ v fits. (to v fits, from v fits) }
      where
        to : (v : List Value) → IsValuation variables v → truth s v ≡ true → IsCovered sys.cons item (tree_of v t)
        to v fits h =
            let bs = seen_binds f binds in
            let parts = and_parts (truth equal v) (truth holding v) (sym (joins.means v) ∙ h) in
            let w = filled v bs in
            let agrees = filled_agrees v bs in (
              w,
              record {
                fits = agreeing_fits f variables sys.cons item.vars binds laws met.lawful all_bound v fits w (filled_long v bs) agrees;
                pattern = (met.exact v fits w).1 (agrees, (decides_all v equations).0 (sym (all.means v) ∙ parts.0));
                whens = (holds.exact v w agrees).0 parts.1;
              },
            )

        from : (v : List Value) → IsValuation variables v → IsCovered sys.cons item (tree_of v t) → truth s v ≡ true
        from v fits x =
            let r = (met.exact v fits x.0).0 x.1.pattern in
            joins.means v ∙ and_from (truth equal v) (truth holding v) (all.means v ∙ (decides_all v equations).1 r.1) ((holds.exact v x.0 r.0).1 x.1.whens)
