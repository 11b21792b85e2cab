-- Formulas with probe keys are joined.
use Rattle.std.proofs.Common.{◌≡◌, ◌↔◌, ◌⊎◌, inl, inr, Bool, true, false, ◌&&◌, ◌||◌, List, [], ◌++◌, length, take, drop, All, refl, sym, ap, ◌∙◌, subst}
use Rattle.std.proofs.Math.Seq.{drop-append_seam}
use Rattle.std.proofs.lemmas.Bool.{and_parts, and_from, or_cases, or_left, or_right}
use Rattle.std.proofs.lemmas.List.{append-nil, append_assoc, take-append-drop}
use Rattle.std.proofs.lemmas.List.Elements.{All-nil, All-drop}
use Rattle.data_value.specs.declared.DataSort.{DataSort}
use Rattle.data_value.specs.declared.Value.{Value}
use Rattle.data_value.specs.Sorts.{IsSort}
use Rattle.data_value.specs.Values.{IsValue}
use Rattle.data_value.specs.Nodes.{Seen, IsValuation}
use Rattle.data_value.specs.Truth.{IsCondition, IsTruth, truth}
use Rattle.data_value.proofs.ValuationLemmas.{valuations_join, valuation_parts, some_valuation}
use Rattle.probe_keys.specs.Probed.{IsProbed}
use Rattle.probe_keys.proofs.Lengthened.{IsSettled, Stays, settled_truth}

-- the valuation of no variables
nothing_fits : IsValuation [] []
nothing_fits = record { values = All-nil IsValue; sorted = refl }

module _ {N : Type 0} (before : List DataSort) (s : Seen N) (is : IsSettled before s) (condition : IsCondition s) where
  -- a condition is true, while nothing impossible holds
  pub condition_probed : IsProbed before before (truth s) (λ v. ⊥) s
  condition_probed = record {
    keys = [];
    grown = sym (append-nil before);
    condition = condition;
    sound = λ v w fits keys h. (sym (settled_truth before s is v w fits) ∙ h, λ x. x);
    decides = λ v fits h. inr ([], nothing_fits, settled_truth before s is v [] fits ∙ h);
  }

  -- a condition isn't false
  pub falsity_probed : IsProbed before before (λ v. true) (λ v. truth s v ≡ false) s
  falsity_probed = record {
    keys = [];
    grown = sym (append-nil before);
    condition = condition;
    sound = λ v w fits keys h. (refl, λ e. let t : true ≡ false = sym (sym (settled_truth before s is v w fits) ∙ h) ∙ e in cc);
    decides = λ v fits h. go v fits (truth s v) refl;
  }
    where
      go : (v : List Value) → IsValuation before v → (b : Bool) → truth s v ≡ b → (truth s v ≡ false) ⊎ ((w : List Value) × IsValuation [] w × (truth s (v ++ w) ≡ true))
      go v fits false e = inl e
      go v fits true e = inr ([], nothing_fits, settled_truth before s is v [] fits ∙ e)

-- the same of what is the same
pub probed_same : {N : Type 0} (before after : List DataSort) (holds : List Value → Bool) (P Q : List Value → Type 0) (s : Seen N) → ((v : List Value) → IsValuation before v → P v ↔ Q v) → IsProbed before after holds P s → IsProbed before after holds Q s
probed_same before after holds P Q s same is = record {
  keys = is.keys;
  grown = is.grown;
  condition = is.condition;
  sound = λ v w fits keys h. let r = is.sound v w fits keys h in (r.0, λ q. r.1 ((same v fits).1 q));
  decides = λ v fits h. elim (is.decides v fits h) [ inl p ↦ inl ((same v fits).0 p) | inr r ↦ inr r ];
}

module _ {N : Type 0} (before middle after : List DataSort) (holds : List Value → Bool) (P Q : List Value → Type 0) (s t u : Seen N)
    (first : IsProbed before middle holds P s) (second : IsProbed middle after (λ v. true) Q t) (stays : Stays before Q) (settled : IsSettled middle s) where
  grown : after ≡ before ++ (first.keys ++ second.keys)
  grown = second.grown ∙ ap (λ ss. ss ++ second.keys) first.grown ∙ append_assoc before first.keys second.keys

  -- with values of the first keys
  with_first : (v x : List Value) → IsValuation before v → IsValuation first.keys x → IsValuation middle (v ++ x)
  with_first v x fits keys = subst (λ ss. IsValuation ss (v ++ x)) (sym first.grown) (valuations_join before first.keys v x fits keys)

  -- the values of all keys are those of the first and those of the second
  keys_part : (w : List Value) → IsValuation (first.keys ++ second.keys) w → (x : List Value) × (y : List Value) × (w ≡ x ++ y) × IsValuation first.keys x × IsValuation second.keys y
  keys_part w is =
      let n = length first.keys in
      let parts = valuation_parts first.keys second.keys w is in
      (take n w, drop n w, sym (take-append-drop n w), parts.0, parts.1)

  -- the second keys are nothing to the first formula
  first_same : (v x y : List Value) → IsValuation before v → IsValuation first.keys x → truth s (v ++ (x ++ y)) ≡ truth s (v ++ x)
  first_same v x y fits keys = ap (truth s) (sym (append_assoc v x y)) ∙ settled_truth middle s settled (v ++ x) y (with_first v x fits keys)

  second_same : (v x y : List Value) → truth t (v ++ (x ++ y)) ≡ truth t ((v ++ x) ++ y)
  second_same v x y = ap (truth t) (sym (append_assoc v x y))

  -- both formulas say that neither holds
  pub both_probed : IsTruth u (λ v. truth s v && truth t v) → IsProbed before after holds (λ v. P v ⊎ Q v) u
  both_probed joins = record {
    keys = first.keys ++ second.keys;
    grown = grown;
    condition = joins.condition;
    sound = λ v w fits keys h. let p = keys_part w keys in neither v p.0 p.1 fits p.3 p.4 (subst (λ z. truth u (v ++ z) ≡ true) p.2 h);
    decides = λ v fits h. elim (first.decides v fits h) [ inl p ↦ inl (inl p) | inr r ↦ then_second v r.0 fits r.1 r.2 ];
  }
    where
      neither : (v x y : List Value) → IsValuation before v → IsValuation first.keys x → IsValuation second.keys y → truth u (v ++ (x ++ y)) ≡ true → (holds v ≡ true) × (¬ (P v ⊎ Q v))
      neither v x y fits k j h =
          let parts = and_parts (truth s (v ++ (x ++ y))) (truth t (v ++ (x ++ y))) (sym (joins.means (v ++ (x ++ y))) ∙ h) in
          let one = first.sound v x fits k (sym (first_same v x y fits k) ∙ parts.0) in
          let two = second.sound (v ++ x) y (with_first v x fits k) j (sym (second_same v x y) ∙ parts.1) in
          (one.0, λ some. elim some [ inl p ↦ one.1 p | inr q ↦ two.1 ((stays.longer v x fits).1 q) ])

      then_second : (v x : List Value) → IsValuation before v → IsValuation first.keys x → truth s (v ++ x) ≡ true → (P v ⊎ Q v) ⊎ ((w : List Value) × IsValuation (first.keys ++ second.keys) w × (truth u (v ++ w) ≡ true))
      then_second v x fits k e =
          elim (second.decides (v ++ x) (with_first v x fits k) refl) [
            | inl q ↦ inl (inr ((stays.longer v x fits).0 q))
            | inr r ↦
                inr (
                  x ++ r.0,
                  valuations_join first.keys second.keys x r.0 k r.1,
                  joins.means (v ++ (x ++ r.0)) ∙ and_from (truth s (v ++ (x ++ r.0))) (truth t (v ++ (x ++ r.0))) (first_same v x r.0 fits k ∙ e) (second_same v x r.0 ∙ r.2),
                )
          ]

-- the keys are variables of sorts
keys_sorted : {N : Type 0} (before after : List DataSort) (holds : List Value → Bool) (P : List Value → Type 0) (s : Seen N) (is : IsProbed before after holds P s) → All IsSort after → All IsSort is.keys
keys_sorted before after holds P s is sorts = subst (All IsSort) (drop-append_seam before is.keys) (All-drop IsSort (length before) (before ++ is.keys) (subst (All IsSort) is.grown sorts))

module _ {N : Type 0} (before middle after : List DataSort) (P Q : List Value → Type 0) (s t u : Seen N)
    (first : IsProbed before middle (λ v. true) P s) (second : IsProbed middle after (λ v. true) Q t) (stays : Stays before Q) (settled : IsSettled middle s) where
  -- one of two formulas says that not both hold; the keys of the other may have any values
  pub either_probed : All IsSort middle → All IsSort after → IsTruth u (λ v. truth s v || truth t v) → IsProbed before after (λ v. true) (λ v. P v × Q v) u
  either_probed middle_sorts after_sorts joins = record {
    keys = first.keys ++ second.keys;
    grown = grown before middle after (λ v. true) P Q s t u first second stays settled;
    condition = joins.condition;
    sound = λ v w fits keys h.
        let p = keys_part before middle after (λ v. true) P Q s t u first second stays settled w keys in
        (refl, not_both v p.0 p.1 fits p.3 p.4 (or_cases _ _ (sym (joins.means (v ++ (p.0 ++ p.1))) ∙ subst (λ z. truth u (v ++ z) ≡ true) p.2 h)));
    decides = λ v fits h. elim (first.decides v fits refl) [ inl p ↦ then_second v fits p | inr r ↦ inr (by_first v r.0 fits r.1 r.2) ];
  }
    where
      fits_middle : (v x : List Value) → IsValuation before v → IsValuation first.keys x → IsValuation middle (v ++ x)
      fits_middle = with_first before middle after (λ v. true) P Q s t u first second stays settled

      same_first : (v x y : List Value) → IsValuation before v → IsValuation first.keys x → truth s (v ++ (x ++ y)) ≡ truth s (v ++ x)
      same_first = first_same before middle after (λ v. true) P Q s t u first second stays settled

      same_second : (v x y : List Value) → truth t (v ++ (x ++ y)) ≡ truth t ((v ++ x) ++ y)
      same_second = second_same before middle after (λ v. true) P Q s t u first second stays settled

      not_both : (v x y : List Value) → IsValuation before v → IsValuation first.keys x → IsValuation second.keys y → (truth s (v ++ (x ++ y)) ≡ true) ⊎ (truth t (v ++ (x ++ y)) ≡ true) → ¬ (P v × Q v)
      not_both v x y fits k j (inl h) = λ both. (first.sound v x fits k (sym (same_first v x y fits k) ∙ h)).1 both.0
      not_both v x y fits k j (inr h) = λ both. (second.sound (v ++ x) y (fits_middle v x fits k) j (sym (same_second v x y) ∙ h)).1 ((stays.longer v x fits).1 both.1)

      by_first : (v x : List Value) → IsValuation before v → IsValuation first.keys x → truth s (v ++ x) ≡ true → (w : List Value) × IsValuation (first.keys ++ second.keys) w × (truth u (v ++ w) ≡ true)
      by_first v x fits k e =
          let any = some_valuation second.keys (keys_sorted middle after (λ v. true) Q t second after_sorts) in (
            x ++ any.0,
            valuations_join first.keys second.keys x any.0 k any.1,
            joins.means (v ++ (x ++ any.0)) ∙ or_left (truth s (v ++ (x ++ any.0))) (truth t (v ++ (x ++ any.0))) (same_first v x any.0 fits k ∙ e),
          )

      then_second : (v : List Value) → IsValuation before v → P v → (P v × Q v) ⊎ ((w : List Value) × IsValuation (first.keys ++ second.keys) w × (truth u (v ++ w) ≡ true))
      then_second v fits p =
          let any = some_valuation first.keys (keys_sorted before middle (λ v. true) P s first middle_sorts) in
          let x = any.0 in
          elim (second.decides (v ++ x) (fits_middle v x fits any.1) refl) [
            | inl q ↦ inl (p, (stays.longer v x fits).0 q)
            | inr r ↦
                inr (
                  x ++ r.0,
                  valuations_join first.keys second.keys x r.0 any.1 r.1,
                  joins.means (v ++ (x ++ r.0)) ∙ or_right (truth s (v ++ (x ++ r.0))) (truth t (v ++ (x ++ r.0))) (same_second v x r.0 ∙ r.2),
                )
          ]

-- the same over variables that are the same
pub probed_of : {N : Type 0} (before after variables : List DataSort) (holds : List Value → Bool) (P : List Value → Type 0) (s : Seen N) → variables ≡ after → IsProbed before after holds P s → IsProbed before variables holds P s
probed_of before after variables holds P s e is = subst (λ ss. IsProbed before ss holds P s) (sym e) is
