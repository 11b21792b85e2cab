-- Formulas with probe keys: further variables, which stand for keys at which maps differ.
use Rattle.std.specs.Prelude.{◌≡◌, ◌⊎◌, ◌++◌, Bool, true, List}
use Rattle.data_value.specs.declared.DataSort.{DataSort}
use Rattle.data_value.specs.declared.Value.{Value}
use Rattle.data_value.specs.Nodes.{Seen, IsValuation}
use Rattle.data_value.specs.Truth.{IsCondition, truth}

-- The variables were these before and are those after, s is a formula over the ones after, and it says that a condition over the
-- ones before is true while something is not: where it is true, for whatever values of the probe keys, the condition is true and P doesn't
-- hold; and where the condition is true, P holds or some values of the probe keys make the formula true.
pub record IsProbed {N : Type 0} (before after : List DataSort) (holds : List Value → Bool) (P : List Value → Type 0) (s : Seen N) : Type 0 where
  pub keys : List DataSort
  pub grown : after ≡ before ++ keys
  pub condition : IsCondition s
  pub sound : (v w : List Value) → IsValuation before v → IsValuation keys w → truth s (v ++ w) ≡ true → (holds v ≡ true) × (¬ P v)
  pub decides : (v : List Value) → IsValuation before v → holds v ≡ true → P v ⊎ ((w : List Value) × IsValuation keys w × (truth s (v ++ w) ≡ true))
