-- Quotients and remainders of words.
use Rattle.std.specs.Prelude.{ℕ, ◌+◌, ◌-◌, ◌*◌, ◌^◌, Bool, ◌&&◌, ◌||◌, ◌==◌, nat_lt, List, length}
use Rattle.refute_check.specs.declared.lit.Lit.{Lit}
use Rattle.data_value.specs.Words.{quotient, remainder}
use Rattle.bit_gates.specs.declared.builder.Builder.{Builder}
use Rattle.bit_gates.specs.Bits.{number}
use Rattle.bit_gates.specs.Meaning.{IsWord}

-- r is below y, or y is zero and q is all ones
abbrev pub is_rest : ℕ → ℕ → ℕ → ℕ → Bool
is_rest w y q r = nat_lt r y || ((y == 0) && (q == 2 ^ w - 1))

-- x is q * y + r, and r is a remainder
abbrev pub is_division : ℕ → ℕ → ℕ → ℕ → ℕ → Bool
is_division w x y q r = (q * y + r == x) && is_rest w y q r

-- the numbers that the words spell under an assignment are a division
abbrev pub spells_division : (ℕ → Bool) → List Lit → List Lit → List Lit → List Lit → Bool
spells_division a xs ys qs rs = is_division (length xs) (number a xs) (number a ys) (number a qs) (number a rs)

-- qs and rs spell the quotient and the remainder of xs and ys
pub record IsDivision (b : Builder) (xs ys qs rs : List Lit) : Type 0 where
  pub quotient : IsWord b qs (length xs) (λ a. quotient (length xs) (number a xs) (number a ys))
  pub remainder : IsWord b rs (length xs) (λ a. remainder (number a xs) (number a ys))
