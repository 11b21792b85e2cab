-- Truth values as bits, and the numbers that literals spell.
use Rattle.std.specs.Prelude.{ℕ, ◌≡◌, ◌+◌, ◌*◌, Bool, true, false, not, List, [], ◌∷◌}
use Rattle.refute_check.specs.declared.lit.Lit.{Lit}
use Rattle.refute_check.specs.Truth.{flipped, lit_true, all_true}

-- the bit of a truth value
abbrev pub bit : Bool → ℕ
bit true = 1
bit false = 0

-- the number whose bits are the truth values of the literals, the lowest first
unfoldable pub number : (ℕ → Bool) → List Lit → ℕ
number a [] = 0
number a (l ∷ ls) = bit (lit_true a l) + 2 * number a ls

-- whether one of two truth values is true, and not both
abbrev pub exclusive_or : Bool → Bool → Bool
exclusive_or true y = not y
exclusive_or false y = y

-- a literal, or its opposite
abbrev pub toggled : Bool → Lit → Lit
toggled true l = flipped l
toggled false l = l

-- the literal of the first variable with this sign
abbrev pub constant_lit : Bool → Lit
constant_lit v = record { var = 0; positive = v }

-- wherever the clauses are true, the first variable is
abbrev pub Grounded : List (List Lit) → Type 0
Grounded cs = (a : ℕ → Bool) → all_true a cs ≡ true → a 0 ≡ true
