-- What it is for clauses over variables to grow.
use Rattle.std.specs.Prelude.{ℕ, ◌≡◌, ◌<◌, ◌≤◌, Bool, true, List}
use Rattle.refute_check.specs.declared.lit.Lit.{Lit}
use Rattle.refute_check.specs.Truth.{all_true}
use Rattle.bit_gates.specs.declared.builder.Builder.{Builder}

-- an assignment that makes all clauses true, and differs from a from variable n on alone
pub record Continued (n : ℕ) (a : ℕ → Bool) (ds : List (List Lit)) : Type 0 where
  pub bits : ℕ → Bool
  pub holds : all_true bits ds ≡ true
  pub same : (x : ℕ) → x < n → bits x ≡ a x

-- a conservative extension: the clauses ds over m variables say no less of the first n variables than the clauses cs do, and no more
pub record IsConservative (n : ℕ) (cs : List (List Lit)) (m : ℕ) (ds : List (List Lit)) : Type 0 where
  pub grows : n ≤ m
  pub keeps : (a : ℕ → Bool) → all_true a ds ≡ true → all_true a cs ≡ true
  pub reaches : (a : ℕ → Bool) → all_true a cs ≡ true → Continued n a ds

-- the new clauses say no less of the old variables than the old clauses do, and no more
abbrev pub Grows : Builder → Builder → Type 0
Grows old new = IsConservative old.clauses.vars old.clauses.list new.clauses.vars new.clauses.list

-- an assignment makes the clauses true
abbrev pub Holds : Builder → (ℕ → Bool) → Type 0
Holds b a = all_true a b.clauses.list ≡ true
