-- What literals and words mean wherever the clauses are true.
use Rattle.std.specs.Prelude.{ℕ, ◌≡◌, ◌<◌, Bool, true, List, length}
use Rattle.refute_check.specs.declared.lit.Lit.{Lit}
use Rattle.refute_check.specs.Truth.{lit_true, clause_below}
use Rattle.bit_gates.specs.declared.builder.Builder.{Builder}
use Rattle.bit_gates.specs.Bits.{number}
use Rattle.bit_gates.specs.Grows.{Holds}

-- a literal of one of the variables
abbrev pub HasLit : Builder → Lit → Type 0
HasLit b l = l.var < b.clauses.vars

-- literals of the variables
abbrev pub HasLits : Builder → List Lit → Type 0
HasLits b ls = clause_below b.clauses.vars ls ≡ true

-- z has the truth value f wherever the clauses are true
pub record IsBit (b : Builder) (z : Lit) (f : (ℕ → Bool) → Bool) : Type 0 where
  pub in_range : HasLit b z
  pub means : (a : ℕ → Bool) → Holds b a → lit_true a z ≡ f a

-- zs has w bits, and spells the number f wherever the clauses are true
pub record IsWord (b : Builder) (zs : List Lit) (w : ℕ) (f : (ℕ → Bool) → ℕ) : Type 0 where
  pub in_range : HasLits b zs
  pub width : length zs ≡ w
  pub means : (a : ℕ → Bool) → Holds b a → number a zs ≡ f a
