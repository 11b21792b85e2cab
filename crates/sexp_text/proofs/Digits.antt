-- When digits write a number.
use Rattle.std.proofs.Common.{◌≡◌, ◌≤◌, ◌<◌, ◌+◌, ◌*◌, ◌^◌, ℕ, List, true, false, ◌&&◌, nat_lt, length, get_or, take, Some, None, sym, ◌∙◌, ap, arith, if◌then◌else◌, subst, inl, inr}
use Rattle.std.specs.List.{list_all}
use Rattle.std.specs.Char.{digit_value, is_digit}
use Rattle.std.specs.Str.Parse.{digits_value}
use Rattle.std.proofs.lemmas.Bool.{cases_lt}
use Rattle.std.proofs.lemmas.List.Folds.{list_all_at, list_all_more}
use Rattle.std.proofs.lemmas.Int.Digits.{digits_value_more}
use Rattle.std.proofs.lemmas.Str.Parse.{digits_value-take-le}
use Rattle.sexp_text.proofs.Truth.{all_true, second_false, third_false, lt_true, lt_false}
use Rattle.sexp_text.specs.Numbers.{is_number, number_in}

no_number : (base : ℕ) (text : List ℕ) → is_number base text ≡ false → number_in base text ≡ None
no_number base text h = ap (λ b. if b then Some (digits_value base text) else None) h

some_number : (base : ℕ) (text : List ℕ) → is_number base text ≡ true → number_in base text ≡ Some (digits_value base text)
some_number base text h = ap (λ b. if b then Some (digits_value base text) else None) h

-- a text without bytes writes no number
pub number_in-empty : (base : ℕ) (text : List ℕ) → length text ≡ 0 → number_in base text ≡ None
number_in-empty base text h = no_number base text (ap (λ n. nat_lt 0 n && (list_all (λ c. is_digit c base) text && nat_lt (digits_value base text) (2 ^ 64))) h)

no_digit : (base : ℕ) (text : List ℕ) (i : ℕ) → i < length text → base ≤ digit_value (get_or text i 0) → number_in base text ≡ None
no_digit base text i within h =
    no_number base text (second_false (nat_lt 0 (length text)) _ _ (list_all_at (λ c. is_digit c base) text i 0 within (lt_false (digit_value (get_or text i 0)) base h)))

too_large : (base : ℕ) (text : List ℕ) (i : ℕ) → i < length text → 1 ≤ base → 2 ^ 64 ≤ digits_value base (take i text) * base + digit_value (get_or text i 0) → number_in base text ≡ None
too_large base text i within low h =
    no_number base text (third_false (nat_lt 0 (length text)) _ _ (lt_false (digits_value base text) (2 ^ 64) (omega (arith, digits_value-take-le base text (i + 1) low, digits_value_more base text i within))))

-- a text in which a byte is no digit, or makes the number too large, writes no number
pub number_in-stops : (base : ℕ) (text : List ℕ) (i v : ℕ) → i < length text → 1 ≤ base → v ≡ digits_value base (take i text) → ¬ ((digit_value (get_or text i 0) < base) × (v * base + digit_value (get_or text i 0) < 2 ^ 64)) → number_in base text ≡ None
number_in-stops base text i v within low is stops =
    elim (cases_lt (digit_value (get_or text i 0)) base) [
      | inl digit ↦ elim (cases_lt (v * base + digit_value (get_or text i 0)) (2 ^ 64)) [
        | inl small ↦ absurd (stops (digit, small))
        | inr large ↦ too_large base text i within low (subst (λ n. 2 ^ 64 ≤ n * base + digit_value (get_or text i 0)) is large)
      ]
      | inr other ↦ no_digit base text i within other
    ]

-- one more digit: all are digits
pub more_digits : (base : ℕ) (text : List ℕ) (i : ℕ) → i < length text → list_all (λ c. is_digit c base) (take i text) ≡ true → digit_value (get_or text i 0) < base → list_all (λ c. is_digit c base) (take (i + 1) text) ≡ true
more_digits base text i within all digit =
    list_all_more (λ c. is_digit c base) text i 0 within ∙ ap (λ t. t && is_digit (get_or text i 0) base) all ∙ lt_true (digit_value (get_or text i 0)) base digit

-- one more digit: the value
pub more_value : (base : ℕ) (text : List ℕ) (i v w : ℕ) → i < length text → v ≡ digits_value base (take i text) → w ≡ v * base + digit_value (get_or text i 0) → w ≡ digits_value base (take (i + 1) text)
more_value base text i v w within is more = more ∙ ap (λ n. n * base + digit_value (get_or text i 0)) is ∙ sym (digits_value_more base text i within)

-- a text of digits with a small value writes it
pub number_in-digits : (base : ℕ) (text : List ℕ) (v : ℕ) → 0 < length text → list_all (λ c. is_digit c base) text ≡ true → v ≡ digits_value base text → v < 2 ^ 64 → number_in base text ≡ Some v
number_in-digits base text v some all is low =
    some_number base text (all_true (nat_lt 0 (length text)) _ _ (lt_true 0 (length text) some) all (lt_true (digits_value base text) (2 ^ 64) (omega (arith, is, low)))) ∙ ap Some (sym is)
