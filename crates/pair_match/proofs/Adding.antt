-- Cases that are added to cases.
use Rattle.std.proofs.Common.{◌≡◌, ◌↔◌, ◌⊎◌, inl, inr, Bool, true, ◌&&◌, List, [], ◌∷◌, ◌++◌, All, Any, sym, ap, ◌∙◌, subst}
use Rattle.std.proofs.lemmas.Bool.{and_parts, and_from}
use Rattle.std.proofs.lemmas.List.{map-append}
use Rattle.std.proofs.lemmas.List.Elements.{All-push}
use Rattle.data_value.specs.declared.DataSort.{DataSort}
use Rattle.data_value.specs.declared.Value.{Value}
use Rattle.data_value.specs.Nodes.{Seen, Extends, IsValuation}
use Rattle.data_value.specs.Truth.{IsTruth, truth}
use Rattle.sort_term.specs.declared.term.Term.{Term}
use Rattle.unify.proofs.Anys.{any_none, any_here, any_left, any_right, any_split, any_one}
use Rattle.probe_keys.specs.declared.case.Case.{Case}
use Rattle.probe_keys.specs.declared.case.MapPair.{MapPair}
use Rattle.probe_keys.specs.Cases.{SeenCase, seen_pairs, seen_case, seen_cases, AreMaps, AreSame, IsCase, HoldsAt}
use Rattle.probe_keys.specs.Probed.{IsProbed}
use Rattle.probe_keys.proofs.Holding.{pairs_stay, cases_stay}
use Rattle.probe_keys.proofs.Probing.{probed_same}
use Rattle.pair_match.specs.MoreCases.{AreMoreCases}

module _ {N : Type 0} (variables : List DataSort) where
  -- what is added is the same where it says the same
  pub more_same : (P Q : List Value → Type 0) (old new : List (SeenCase N)) → ((v : List Value) → IsValuation variables v → P v ↔ Q v) → AreMoreCases variables P old new → AreMoreCases variables Q old new
  more_same P Q old new same more = record {
    each = more.each;
    exact = λ v fits. (to v fits, from v fits);
  }
    where
      to : (v : List Value) → IsValuation variables v → Any (HoldsAt v) new → Any (HoldsAt v) old ⊎ Q v
      to v fits a = elim ((more.exact v fits).0 a) [ inl b ↦ inl b | inr p ↦ inr ((same v fits).0 p) ]

      from : (v : List Value) → IsValuation variables v → Any (HoldsAt v) old ⊎ Q v → Any (HoldsAt v) new
      from v fits (inl a) = (more.exact v fits).1 (inl a)
      from v fits (inr q) = (more.exact v fits).1 (inr ((same v fits).1 q))

  -- nothing is added where nothing holds
  pub more_none : (P : List Value → Type 0) (cases : List (SeenCase N)) → All IsCase cases → ((v : List Value) → IsValuation variables v → ¬ P v) → AreMoreCases variables P cases cases
  more_none P cases all never = record {
    each = all;
    exact = λ v fits. (λ a. inl a, from v fits);
  }
    where
      from : (v : List Value) → IsValuation variables v → Any (HoldsAt v) cases ⊎ P v → Any (HoldsAt v) cases
      from v fits (inl a) = a
      from v fits (inr p) = absurd (never v fits p)

  -- one case is added
  pub more_one : (P : List Value → Type 0) (old : List (SeenCase N)) (c : SeenCase N) → All IsCase old → IsCase c → ((v : List Value) → IsValuation variables v → HoldsAt v c ↔ P v) → AreMoreCases variables P old (old ++ c ∷ [])
  more_one P old c all is exact = record {
    each = All-push IsCase old c all is;
    exact = λ v fits. (to v fits, from v fits);
  }
    where
      to : (v : List Value) → IsValuation variables v → Any (HoldsAt v) (old ++ c ∷ []) → Any (HoldsAt v) old ⊎ P v
      to v fits a = elim (any_split (HoldsAt v) old (c ∷ []) a) [ inl b ↦ inl b | inr b ↦ inr ((exact v fits).0 (any_one (HoldsAt v) c b)) ]

      from : (v : List Value) → IsValuation variables v → Any (HoldsAt v) old ⊎ P v → Any (HoldsAt v) (old ++ c ∷ [])
      from v fits (inl a) = any_left (HoldsAt v) old (c ∷ []) a
      from v fits (inr p) = any_right (HoldsAt v) old (c ∷ []) (any_here (HoldsAt v) c [] ((exact v fits).1 p))

  -- more cases are added to those that were added
  pub more_then : (P Q : List Value → Type 0) (old middle new : List (SeenCase N)) → AreMoreCases variables P old middle → AreMoreCases variables Q middle new → AreMoreCases variables (λ v. P v ⊎ Q v) old new
  more_then P Q old middle new first second = record {
    each = second.each;
    exact = λ v fits. (to v fits, from v fits);
  }
    where
      to : (v : List Value) → IsValuation variables v → Any (HoldsAt v) new → Any (HoldsAt v) old ⊎ (P v ⊎ Q v)
      to v fits a =
          elim ((second.exact v fits).0 a) [
            | inl b ↦ elim ((first.exact v fits).0 b) [ inl c ↦ inl c | inr p ↦ inr (inl p) ]
            | inr q ↦ inr (inr q)
          ]

      from : (v : List Value) → IsValuation variables v → Any (HoldsAt v) old ⊎ (P v ⊎ Q v) → Any (HoldsAt v) new
      from v fits (inl a) = (second.exact v fits).1 (inl ((first.exact v fits).1 (inl a)))
      from v fits (inr (inl p)) = (second.exact v fits).1 (inl ((first.exact v fits).1 (inr p)))
      from v fits (inr (inr q)) = (second.exact v fits).1 (inr q)

  -- that none of the cases that were added to none holds is that what they say doesn't
  pub probed_more : (after : List DataSort) (holds : List Value → Bool) (P : List Value → Type 0) (cases : List (SeenCase N)) (s : Seen N) → AreMoreCases variables P [] cases → IsProbed variables after holds (λ v. Any (HoldsAt v) cases) s → IsProbed variables after holds P s
  probed_more after holds P cases s more probed = probed_same variables after holds (λ v. Any (HoldsAt v) cases) P s (λ v fits. (to v fits, λ p. (more.exact v fits).1 (inr p))) probed
    where
      to : (v : List Value) → IsValuation variables v → Any (HoldsAt v) cases → P v
      to v fits a = elim ((more.exact v fits).0 a) [ inl b ↦ absurd (any_none (HoldsAt v) b) | inr p ↦ p ]

-- one case is added: that two conditions are true and maps are equal
pub case_added : {N : Type 0} (variables : List DataSort) (f g : N → Seen N) → Extends f g → (condition test n : N) (maps : List (MapPair N)) (old new : List (Case N)) → All IsCase (seen_cases f old) → All AreMaps (seen_pairs f maps) →
    IsTruth (g n) (λ v. truth (f condition) v && truth (f test) v) → new ≡ old ++ record { test = n; maps = maps } ∷ [] →
    AreMoreCases variables (λ v. (truth (f condition) v ≡ true) × (truth (f test) v ≡ true) × All (AreSame v) (seen_pairs f maps)) (seen_cases f old) (seen_cases g new)
case_added {N} variables f g x condition test n maps old new all are joins e =
    let case : Case N = record { test = n; maps = maps } in
    let pairs : seen_pairs g maps ≡ seen_pairs f maps = pairs_stay f g x maps are in
    let Says : List Value → Type 0 = λ v. (truth (f condition) v ≡ true) × (truth (f test) v ≡ true) × All (AreSame v) (seen_pairs f maps) in
    let grown : seen_cases g new ≡ seen_cases f old ++ seen_case g case ∷ [] = ap (seen_cases g) e ∙ map-append (seen_case g) old (case ∷ []) ∙ ap (λ ss. ss ++ seen_case g case ∷ []) (cases_stay f g x old all) in
    subst (AreMoreCases variables Says (seen_cases f old)) (sym grown)
    (more_one variables Says (seen_cases f old) (seen_case g case) all record { test = joins.condition; maps = subst (All AreMaps) (sym pairs) are }
    (λ v fits. (
      λ h.
          let parts = and_parts (truth (f condition) v) (truth (f test) v) (sym (joins.means v) ∙ h.on) in
          (parts.0, parts.1, subst (All (AreSame v)) pairs h.same),
      λ h. record { on = joins.means v ∙ and_from (truth (f condition) v) (truth (f test) v) h.0 h.1; same = subst (All (AreSame v)) (sym pairs) h.2 },
    )))

-- none of the cases that were added to none, as they are seen later
pub none_added : {N : Type 0} (vs ws after : List DataSort) (s r n : Seen N) (P : List Value → Type 0) (cs ds : List (SeenCase N)) → ws ≡ vs → r ≡ s → ds ≡ cs → AreMoreCases vs P [] cs → IsProbed ws after (truth r) (λ v. Any (HoldsAt v) ds) n → IsProbed vs after (truth s) P n
none_added vs ws after s r n P cs ds e e' e'' more probed =
    probed_more vs after (truth s) P cs n more
    (subst (λ x. IsProbed vs after (truth s) (λ v. Any (HoldsAt v) x) n) e'' (subst (λ x. IsProbed vs after (truth x) (λ v. Any (HoldsAt v) ds) n) e' (subst (λ x. IsProbed x after (truth r) (λ v. Any (HoldsAt v) ds) n) e probed)))

-- what is said of a condition and two terms is said of what they are seen as
pub more_seen : {N : Type 0} (R : Seen N → Term (Seen N) → Term (Seen N) → List Value → Type 0) (old new : List (SeenCase N)) (vs ws : List DataSort) (s r : Seen N) (t t' u u' : Term (Seen N)) → vs ≡ ws → s ≡ r → t ≡ t' → u ≡ u' →
    AreMoreCases vs (R s t u) old new → AreMoreCases ws (R r t' u') old new
more_seen R old new vs ws s r t t' u u' e e' e'' e''' more =
    subst (λ x. AreMoreCases ws (R r t' x) old new) e''' (subst (λ x. AreMoreCases ws (R r x u) old new) e'' (subst (λ x. AreMoreCases ws (R x t u) old new) e' (subst (λ x. AreMoreCases x (R s t u) old new) e more)))
