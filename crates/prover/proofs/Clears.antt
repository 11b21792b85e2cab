-- Valuations that are cleared, value by value.
use Rattle.std.proofs.Common.{arith, ◌≡◌, inl, inr, ℕ, ◌+◌, ◌<◌, Bool, true, false, List, [], ◌∷◌, ◌++◌, length, take, get_or, refl, sym, ap, ◌∙◌, subst}
use Rattle.std.proofs.lemmas.Bool.{cases_lt}
use Rattle.std.proofs.lemmas.List.{take_more, take_all, get_or_append_left, get_or_push, get_or_past, length-map, length-take-le}
use Rattle.std.proofs.lemmas.List.Elements.{All-nil, All-cons}
use Rattle.std.proofs.lemmas.Option.{slice_get_within}
use Rattle.data_value.specs.declared.DataSort.{DataSort}
use Rattle.data_value.specs.declared.Scalar.TheVariants.{Flag}
use Rattle.data_value.specs.declared.Value.{Value}
use Rattle.data_value.specs.declared.Value.TheVariants.{One}
use Rattle.data_value.specs.Values.{IsValue, IsValueOf, value_sort}
use Rattle.data_value.specs.Nodes.{IsValuation}
use Rattle.data_value.specs.Views.{value_at}
use Rattle.data_value.proofs.ValuationLemmas.{valuations_join}
use Rattle.prover.specs.Splitting.{IsMarked}
use Rattle.prover.specs.Usage.{IsZero, IsClearedValue, IsCleared}

-- the first i values are cleared
pub record IsClearing (variables : List DataSort) (marks : List Bool) (v w : List Value) (i : ℕ) : Type 0 where
  pub fits : IsValuation (take i variables) w
  pub kept : (k : ℕ) → k < i → IsMarked marks k → value_at w k ≡ value_at v k
  pub zero : (k : ℕ) → k < i → (IsMarked marks k → ⊥) → IsZero (value_at w k)

one_fits : (t : DataSort) (x : Value) → IsValueOf t x → IsValuation (t ∷ []) (x ∷ [])
one_fits t x is = record { values = All-cons IsValue x [] is.value (All-nil IsValue); sorted = ap (λ s. s ∷ []) is.sort }

pub counted : (variables : List DataSort) (w : List Value) → IsValuation variables w → length w ≡ length variables
counted variables w is = sym (length-map w value_sort) ∙ ap length is.sorted

-- one more value
pub clearing_more : (variables : List DataSort) (marks : List Bool) (v w w' : List Value) (i : ℕ) (t : DataSort) (b : Bool) (x : Value) → i < length variables → t ≡ get_or variables i t → (b ≡ true → IsMarked marks i) → (b ≡ false → IsMarked marks i → ⊥)
    → IsClearedValue t b (value_at v i) x → w' ≡ w ++ x ∷ [] → IsClearing variables marks v w i → IsClearing variables marks v w' (i + 1)
clearing_more variables marks v w w' i t b x lt here marked unmarked value more is =
    let count : length w ≡ i = counted (take i variables) w is.fits ∙ length-take-le i variables (omega arith) in
    let sorts : take (i + 1) variables ≡ take i variables ++ t ∷ [] = take_more variables i t lt ∙ ap (λ s. take i variables ++ s ∷ []) (sym here) in
    let last : value_at w' i ≡ x = ap (λ u. value_at u i) more ∙ get_or_push w x (One (Flag false)) i count in
    let before : (k : ℕ) → k < i → value_at w' k ≡ value_at w k = λ k l. ap (λ u. value_at u k) more ∙ get_or_append_left w (x ∷ []) (One (Flag false)) k (omega (arith, count)) in
    record {
      fits = subst (λ u. IsValuation (take (i + 1) variables) u) (sym more) (subst (λ ss. IsValuation ss (w ++ x ∷ [])) (sym sorts) (valuations_join (take i variables) (t ∷ []) w (x ∷ []) is.fits (one_fits t x value.fits)));
      kept = λ k l m. elim (cases_lt k i) [
        | inl below ↦ before k below ∙ is.kept k below m
        | inr ge ↦ let e : k ≡ i = let g = ge in omega arith in ap (value_at w') e ∙ last ∙ value.kept (is_true b (λ h. unmarked h (subst (IsMarked marks) e m))) ∙ ap (value_at v) (sym e)
      ];
      zero = λ k l none. elim (cases_lt k i) [
        | inl below ↦ subst IsZero (sym (before k below)) (is.zero k below none)
        | inr ge ↦ let e : k ≡ i = let g = ge in omega arith in subst IsZero (sym (ap (value_at w') e ∙ last)) (value.zero (is_false b (λ h. none (subst (IsMarked marks) (sym e) (marked h)))))
      ];
    }
  where
    is_true : (c : Bool) → (c ≡ false → ⊥) → c ≡ true
    is_true true h = refl
    is_true false h = absurd (h refl)

    is_false : (c : Bool) → (c ≡ true → ⊥) → c ≡ false
    is_false false h = refl
    is_false true h = absurd (h refl)

-- all values are cleared
pub cleared_all : (variables : List DataSort) (marks : List Bool) (v w : List Value) (i : ℕ) → i ≡ length variables → length marks ≡ length variables → IsClearing variables marks v w i → IsCleared variables marks v w
cleared_all variables marks v w i end count is = record {
  fits = subst (λ ss. IsValuation ss w) (take_all i variables (omega (arith, end))) is.fits;
  kept = λ k m. is.kept k (let l = slice_get_within marks k true m in omega (arith, end, count)) m;
  zero = λ k none. elim (cases_lt k i) [
    | inl below ↦ is.zero k below none
    | inr ge ↦ subst IsZero (sym (get_or_past w k (One (Flag false)) (let g = ge in omega (arith, counted (take i variables) w is.fits, length-take-le i variables (omega (arith, end)))))) refl
  ];
}
