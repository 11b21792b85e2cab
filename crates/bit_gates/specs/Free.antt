-- Words of which nothing is said.
use Rattle.std.specs.Prelude.{ℕ, ◌≡◌, ◌<◌, ◌≤◌, ◌^◌, Bool, List, length}
use Rattle.refute_check.specs.declared.lit.Lit.{Lit}
use Rattle.bit_gates.specs.declared.builder.Builder.{Builder}
use Rattle.bit_gates.specs.Bits.{number}
use Rattle.bit_gates.specs.Meaning.{HasLits}

-- an assignment under which zs spells v, and which differs from a from variable n on alone
pub record Picked (n : ℕ) (a : ℕ → Bool) (zs : List Lit) (v : ℕ) : Type 0 where
  pub bits : ℕ → Bool
  pub same : (x : ℕ) → x < n → bits x ≡ a x
  pub spells : number bits zs ≡ v

-- zs is a word of w new variables, of which no clause speaks: it may spell any number
pub record IsFree (old new : Builder) (zs : List Lit) (w : ℕ) : Type 0 where
  pub clauses : new.clauses.list ≡ old.clauses.list
  pub grows : old.clauses.vars ≤ new.clauses.vars
  pub in_range : HasLits new zs
  pub width : length zs ≡ w
  pub picks : (a : ℕ → Bool) (v : ℕ) → v < 2 ^ w → Picked old.clauses.vars a zs v
