-- The decimal digits of a number are read as that number.
use Rattle.std.proofs.Common.{◌≡◌, ◌<◌, ◌^◌, ℕ, zero, suc, List, [], ◌∷◌, true, false, ◌&&◌, ◌==◌, nat_le, length, slice_index, drop, Some, if◌then◌else◌, refl, sym, ◌∙◌, ap, arith}
use Rattle.std.specs.List.{list_all}
use Rattle.std.specs.Char.{digit_value, is_digit, is_ascii_digit}
use Rattle.std.specs.Int.{IsInRange}
use Rattle.std.specs.Fmt.{decimal}
use Rattle.std.specs.Str.Parse.{AllDigits}
use Rattle.std.proofs.lemmas.Fmt.{decimal_is_IsNumeral}
use Rattle.std.proofs.lemmas.Str.Parse.{digit_from_value}
use Rattle.sexp_text.specs.Bytes.{is_atom_byte}
use Rattle.sexp_text.specs.Numbers.{number_in, is_hex, number_of}
use Rattle.sexp_text.proofs.Digits.{number_in-digits}
use Rattle.sexp_text.proofs.Truth.{and_false, same_false, le_true, lt_true}
use Rattle.sexp_text.proofs.ByteClasses.{digit_is_atom}

digit_range : (c : ℕ) → IsInRange 48 57 c → is_ascii_digit c ≡ true
digit_range c h = ap (λ t. t && nat_le c 57) (le_true 48 c h.0) ∙ le_true c 57 h.1

all_digits : (ds : List ℕ) → AllDigits 10 ds → list_all (λ c. is_digit c 10) ds ≡ true
all_digits [] h = refl
all_digits (d ∷ ds) h = ap (λ t. t && list_all (λ c. is_digit c 10) ds) (lt_true (digit_value d) 10 h.0) ∙ all_digits ds h.1

all_atoms : (ds : List ℕ) → AllDigits 10 ds → list_all is_atom_byte ds ≡ true
all_atoms [] h = refl
all_atoms (d ∷ ds) h = ap (λ t. t && list_all is_atom_byte ds) (digit_is_atom d (digit_range d (digit_from_value d h.0))) ∙ all_atoms ds h.1

first_digit : (ds : List ℕ) → AllDigits 10 ds → 0 < length ds → is_ascii_digit (slice_index ds 0) ≡ true
first_digit [] h some = absurd (omega arith)
first_digit (d ∷ ds) h some = digit_range d (digit_from_value d h.0)

-- no digit is an `x`, 120
no_x : (ds : List ℕ) (k : ℕ) → AllDigits 10 ds → slice_index ds k < 120
no_x [] k h = omega arith
no_x (d ∷ ds) zero h = omega (arith, (digit_from_value d h.0).1)
no_x (d ∷ ds) (suc k) h = no_x ds k h.1

not_hex : (ds : List ℕ) → AllDigits 10 ds → is_hex ds ≡ false
not_hex ds h = let low = no_x ds 1 h in and_false (slice_index ds 0 == 48) _ (same_false (slice_index ds 1) 120 (λ e. absurd (omega arith)))

module _ (n : ℕ) (small : n < 2 ^ 64) where
  numeral : (0 < length (decimal n)) × AllDigits 10 (decimal n)
  numeral = (decimal_is_IsNumeral n small).0

  pub decimal_some : 0 < length (decimal n)
  decimal_some = numeral.0

  pub decimal_atoms : list_all is_atom_byte (decimal n) ≡ true
  decimal_atoms = all_atoms (decimal n) numeral.1

  pub decimal_first : is_ascii_digit (slice_index (decimal n) 0) ≡ true
  decimal_first = first_digit (decimal n) numeral.1 numeral.0

  pub decimal_number : number_of (decimal n) ≡ Some n
  decimal_number =
      ap (λ b. if b then number_in 16 (drop 2 (decimal n)) else number_in 10 (decimal n)) (not_hex (decimal n) numeral.1)
      ∙ number_in-digits 10 (decimal n) n numeral.0 (all_digits (decimal n) numeral.1) (sym (decimal_is_IsNumeral n small).1) small
