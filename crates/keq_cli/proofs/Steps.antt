-- How `parse` reads a word that may give a number of steps.
use Rattle.std.proofs.Common.{◌≡◌, ◌<◌, ◌≤◌, ◌^◌, ◌==◌, ℕ, List, [], ◌∷◌, length, slice_index, Some, None, true, false, Result, Err, Ok, arith}
use Rattle.std.proofs.lemmas.Bool.Decides.{nat_tests}
use Rattle.std.proofs.lemmas.Str.Parse.{IsNumeralModel, numerals_by_value, tells_all_ascii_digits, parse_plain}
use Rattle.std.specs.Result.{result_ok, OkIff}
use Rattle.std.specs.Str.{all_ascii_digits}
use Rattle.std.specs.Str.Parse.{digits_value, ParsesUnsigned}
use Rattle.keq_cli.specs.Words.{step_count_of}

-- decimal digits, and the number that they write
digits : IsNumeralModel (λ word. all_ascii_digits word ≡ true) (digits_value 10)
digits = numerals_by_value _ tells_all_ascii_digits

-- a word without a plus in front parses exactly where it is digits
plain : {E : Type 0} (word : List ℕ) (r : Result ℕ E) → ParsesUnsigned 32 10 word r → false ≡ (slice_index word 0 == 43) → OkIff r ((all_ascii_digits word ≡ true) × (0 < length word) × (digits_value 10 word < 2 ^ 32)) (digits_value 10 word)
plain word r reads first = parse_plain digits 32 word r reads (grind (arith, nat_tests))

-- digits that write a number above 0 are some
filled : (word : List ℕ) → 1 ≤ digits_value 10 word → 0 < length word
filled [] above = absurd (omega (arith, above))
filled (c ∷ cs) above = omega arith

-- a word that doesn't parse gives no steps
pub no_steps : {E : Type 0} (word : List ℕ) (r : Result ℕ E) → ParsesUnsigned 32 10 word r → false ≡ (slice_index word 0 == 43) → None ≡ result_ok r → None ≡ step_count_of word
no_steps word (Ok n) reads first failed = cc
no_steps word (Err e) reads first failed = let not_digits = plain word (Err e) reads first in grind (arith, nat_tests, filled word)

-- a word that parses to a number in the range gives it
pub some_steps : {E : Type 0} (word : List ℕ) (r : Result ℕ E) (steps : ℕ) → ParsesUnsigned 32 10 word r → false ≡ (slice_index word 0 == 43) → Some steps ≡ result_ok r → length word ≤ 5 → 1 ≤ steps → steps ≤ 10000 → Some steps ≡ step_count_of word
some_steps word (Err e) steps reads first parsed short low high = cc
some_steps {E = E} word (Ok n) steps reads first parsed short low high = let is = plain {E = E} word (Ok n) reads first in grind (arith, nat_tests)
