-- Words of new variables, of which no clause speaks.
use Rattle.std.specs.Prelude.{ℕ, ◌≡◌, ◌<◌, ◌≤◌, Bool, List, All}
use Rattle.data_value.specs.Flat.{AreWords}
use Rattle.bit_gates.specs.declared.builder.Builder.{Builder}
use Rattle.bv_blast.specs.Inputs.{IsBits, words_of, widths_of}

-- an assignment under which the inputs spell these words, and which differs from a from variable n on alone
pub record PickedAll (n : ℕ) (a : ℕ → Bool) (inputs : List (List ℕ)) (words : List ℕ) : Type 0 where
  pub bits : ℕ → Bool
  pub same : (x : ℕ) → x < n → bits x ≡ a x
  pub spells : words_of bits inputs ≡ words

-- the inputs are words of new variables, of these widths: they may spell any words
pub record AreFree (old new : Builder) (inputs : List (List ℕ)) (widths : List ℕ) : Type 0 where
  pub clauses : new.clauses.list ≡ old.clauses.list
  pub grows : old.clauses.vars ≤ new.clauses.vars
  pub sizes : widths_of inputs ≡ widths
  pub in_range : All (IsBits new.clauses.vars) inputs
  pub picks : (a : ℕ → Bool) (words : List ℕ) → AreWords widths words → PickedAll old.clauses.vars a inputs words
