-- Sets of numbers and of literals.
use Rattle.std.specs.Prelude.{ℕ, ◌≡◌, ◌<◌, ◌≤◌, ◌==◌, Bool, true, if◌then◌else◌, List, slice_index_or}
use Rattle.refute_check.specs.declared.lit.Lit.{Lit}
use Rattle.refute_check.specs.Literals.{has_lit}

-- for each number the round in which it was put into a set last, or 0, and the round of now
pub record Numbers : Type 0 where
  pub round : ℕ
  pub stamps : List ℕ

-- a number is in the set where it was put in in the round of now
unfoldable pub has_number : Numbers → ℕ → Bool
has_number s k = slice_index_or s.stamps k 0 == s.round

-- no stamp is of a later round, and the stamp 0 is of none
pub record AreStamps (s : Numbers) : Type 0 where
  pub begun : 0 < s.round
  pub past : (k : ℕ) → slice_index_or s.stamps k 0 ≤ s.round

-- a set of literals: the variables that are in it, and those whose negation is
pub record LitTable : Type 0 where
  pub positive : Numbers
  pub negative : Numbers

-- whether a literal is in the set
unfoldable pub marked : LitTable → Lit → Bool
marked m x = if x.positive then has_number m.positive x.var else has_number m.negative x.var

-- each literal of a set is in a list
abbrev pub Covers : List Lit → LitTable → Type 0
Covers ls m = (x : Lit) → marked m x ≡ true → has_lit ls x ≡ true
