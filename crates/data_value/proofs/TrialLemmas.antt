-- Trials give values, and the test for values tells them.
use Rattle.std.proofs.Common.{◌≡◌, ◌+◌, ◌<◌, ◌≤◌, ◌^◌, ◌-◌, ◌%◌, ℕ, true, false, ◌==◌, if◌then◌else◌, List, [], ◌∷◌, All, map, arith, refl}
use Rattle.std.proofs.lemmas.Nat.{pow_pos, mod_below}
use Rattle.std.proofs.lemmas.List.Elements.{All-nil, All-cons, All-head, All-tail}
use Rattle.data_value.specs.declared.DataSort.{DataSort}
use Rattle.data_value.specs.declared.DataSort.TheVariants.{Bool as BoolSort, Bits as BitsSort, Map as MapSort}
use Rattle.data_value.specs.Sorts.{IsSort}
use Rattle.data_value.specs.Maps.{FitsEntry}
use Rattle.data_value.specs.Values.{IsValue, IsValueOf, value_sort}
use Rattle.data_value.specs.Trials.{drawn, trial_word, trial_value, trial_values, trial}
use Rattle.data_value.proofs.WordLemmas.{two_to_le}

-- a word of at least one bit can be one
trial_word_below : (t i w : ℕ) → 1 ≤ w → trial_word t i w < 2 ^ w
trial_word_below t i w h =
    let two = two_to_le 1 w h in
    let cut = mod_below (drawn t i) (2 ^ w) (pow_pos w) in
    elim (t == 0) as (λ b. (if b then 0 else if t == 1 then 2 ^ w - 1 else if t == 2 then 1 else drawn t i % 2 ^ w) < 2 ^ w) [
      | true ↦ pow_pos w
      | false ↦ elim (t == 1) as (λ b. (if b then 2 ^ w - 1 else if t == 2 then 1 else drawn t i % 2 ^ w) < 2 ^ w) [
        | true ↦ omega arith
        | false ↦ elim (t == 2) as (λ b. (if b then 1 else drawn t i % 2 ^ w) < 2 ^ w) [ true ↦ omega arith | false ↦ cut ]
      ]
    ]

pub trial_value_fits : (t i : ℕ) (s : DataSort) → IsSort s → IsValueOf s (trial_value t i s)
trial_value_fits t i BoolSort h = record { value = tt; sort = refl }
trial_value_fits t i (BitsSort w) h = record { value = (h, trial_word_below t i w h.0); sort = refl }
trial_value_fits t i (MapSort k v) h = record {
  value = record { key_width = h.0; word_width = h.1; rises = tt; fits = All-nil (FitsEntry k v) };
  sort = refl;
}

trial_values_fit : (t i : ℕ) (sorts : List DataSort) → All IsSort sorts → All IsValue (trial_values t i sorts) × (map value_sort (trial_values t i sorts) ≡ sorts)
trial_values_fit t i [] a = (All-nil IsValue, refl)
trial_values_fit t i (s ∷ ss) a =
    let first = trial_value_fits t i s (All-head IsSort s ss a) in
    let rest = trial_values_fit t (i + 1) ss (All-tail IsSort s ss a) in
    let sort = first.sort in
    let sorts = rest.1 in
    (All-cons IsValue (trial_value t i s) (trial_values t (i + 1) ss) first.value rest.0, cc)

-- a trial's values have the variables' sorts
pub trial_fits : (t : ℕ) (sorts : List DataSort) → All IsSort sorts → All IsValue (trial t sorts) × (map value_sort (trial t sorts) ≡ sorts)
trial_fits t sorts a = trial_values_fit t 0 sorts a
