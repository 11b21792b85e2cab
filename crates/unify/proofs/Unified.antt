-- A pattern joined with a term where no variable is bound yet.
use Rattle.std.proofs.Common.{arith, ◌≡◌, ◌⊎◌, inl, inr, ℕ, zero, suc, ◌+◌, ◌<◌, true, List, [], ◌∷◌, length, map, Option, Some, None, All, refl, sym, ap, ◌∙◌, subst}
use Rattle.std.specs.Prelude.{replicate, option_map}
use Rattle.std.proofs.lemmas.List.{length-map}
use Rattle.std.proofs.lemmas.List.Elements.{All-nil}
use Rattle.std.proofs.lemmas.List.Sums.{sum_by-cons}
use Rattle.std.proofs.Math.ListN.{length-replicate}
use Rattle.data_value.specs.declared.DataSort.{DataSort}
use Rattle.data_value.specs.declared.Scalar.TheVariants.{Flag}
use Rattle.data_value.specs.declared.Value.{Value}
use Rattle.data_value.specs.declared.Value.TheVariants.{One}
use Rattle.data_value.specs.Nodes.{Seen}
use Rattle.sort_term.specs.declared.semantics.Con.{Con}
use Rattle.sort_term.specs.declared.term.Term.{Term}
use Rattle.sort_term.specs.declared.rule.Var.{Var}
use Rattle.sort_term.specs.declared.rule.Pattern.{Pattern}
use Rattle.sort_term.specs.Tree.{Trees}
use Rattle.sort_term.specs.Rules.{RepeatsOnlyScalars}
use Rattle.sort_term.specs.Stands.{times, times_in}
use Rattle.sort_term.specs.NodeTerms.{seen_term}
use Rattle.unify.specs.Binds.{Bound, seen_binds, bound_at, IsBound}
use Rattle.data_value.specs.Truth.{IsCondition, AreTrue}
use Rattle.unify.specs.Meets.{SeenMatching, IsMatching, Fulfils, RebindsOnlyScalars, times_bound, AreJoined, AreUnified}
use Rattle.unify.proofs.Evaluated.{not_bound}
use Rattle.unify.specs.Scopes.{scope_of, change_of}

none_at : {N : Type 0} (f : N → Seen N) (n i : ℕ) → bound_at (seen_binds f (replicate n None)) i ≡ None
none_at f zero i = refl
none_at f (suc n) zero = refl
none_at f (suc n) (suc i) = none_at f n i

module _ {N : Type 0} (cons : List Con) (vars : List Var) (f : N → Seen N) (binds : List (Option (Term N))) (es : List N) (free : binds ≡ replicate (length vars) None) (none : es ≡ []) where
  abbrev Start : SeenMatching N
  Start = record { binds = seen_binds f binds; equations = map f es }

  unbound : (i : ℕ) → bound_at (seen_binds f binds) i ≡ None
  unbound i = ap (λ bs. bound_at (seen_binds f bs) i) free ∙ none_at f (length vars) i

  pub start_lawful : IsMatching cons vars Start
  start_lawful = record {
    binds = record {
      long = length-map binds (option_map (seen_term f)) ∙ ap length free ∙ length-replicate (length vars) None;
      sorted = λ i t h. absurd (let e : None ≡ Some t = sym (unbound i) ∙ h in cc);
    };
    equations = subst (λ xs. All IsCondition (map f xs)) (sym none) (All-nil IsCondition);
  }

  pub start_repeats : (p : Pattern) → RepeatsOnlyScalars vars (p ∷ []) → RebindsOnlyScalars vars (seen_binds f binds) (λ i. times i p)
  start_repeats p r = record { each = λ i x there l. r.each i x there (enough i l) }
    where
      enough : (i : ℕ) → 1 < times_bound (bound_at (seen_binds f binds) i) + times i p → 1 < times_in i (p ∷ [])
      enough i l =
          let e = ap times_bound (unbound i) in
          let s = sum_by-cons (times i) p [] in
          omega arith

  fulfilled : (v : List Value) (w : Trees) → Fulfils v w Start
  fulfilled v w = record {
    agrees = record { at = λ i t h. absurd (let e : None ≡ Some t = sym (unbound i) ∙ h in cc) };
    equal = subst (λ xs. AreTrue v (map f xs)) (sym none) (All-nil (λ s. s.meaning v ≡ One (Flag true)));
  }

  pub start_unified : (variables : List DataSort) (p : Pattern) (t : Term (Seen N)) (bs : Bound N) (ds : List (Seen N)) → AreJoined (scope_of cons vars variables) p t (change_of Start (record { binds = bs; equations = ds })) → AreUnified (scope_of cons vars variables) p t bs ds
  start_unified variables p t bs ds j = record {
    clear = j.clear;
    lawful = j.lawful.binds;
    bound = λ i. (λ h. only i ((j.binds.bound i).0 h), λ l. (j.binds.bound i).1 (inr l));
    conditions = j.lawful.equations;
    exact = λ v fits w. (
      λ e. let r = (j.narrows.exact v fits w).1 (fulfilled v w, e) in (r.agrees, r.equal),
      λ h. ((j.narrows.exact v fits w).0 (record { agrees = h.0; equal = h.1 })).1,
    );
  }
    where
      only : (i : ℕ) → IsBound (seen_binds f binds) i ⊎ (0 < times i p) → 0 < times i p
      only i (inl h) = absurd (not_bound (seen_binds f binds) i (unbound i) h)
      only i (inr l) = l
