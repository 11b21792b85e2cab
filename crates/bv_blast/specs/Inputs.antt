-- Inputs by the variables of their bits, and the words that these spell.
use Rattle.std.specs.Prelude.{ℕ, ◌<◌, Bool, true, List, length, map, All}
use Rattle.refute_check.specs.declared.lit.Lit.{Lit}
use Rattle.data_value.specs.Sorts.{IsWidth}
use Rattle.bit_gates.specs.Bits.{number}

-- from 1 to 64 variables, each below n
pub record IsBits (n : ℕ) (bits : List ℕ) : Type 0 where
  pub width : IsWidth (length bits)
  pub in_range : All (λ v. v < n) bits

-- the literal that is true where a variable is
abbrev pub positive : ℕ → Lit
positive v = record { var = v; positive = true }

-- the number that variables spell under an assignment, the lowest bit first
abbrev pub spelled : (ℕ → Bool) → List ℕ → ℕ
spelled a bits = number a (map positive bits)

-- the words that inputs spell
abbrev pub words_of : (ℕ → Bool) → List (List ℕ) → List ℕ
words_of a inputs = map (spelled a) inputs

-- the widths of inputs
abbrev pub widths_of : List (List ℕ) → List ℕ
widths_of inputs = map (λ bits. length bits) inputs
