-- Parts of conditions.
use Rattle.std.specs.Prelude.{◌≡◌, ◌↔◌, true, IsTrue, List, All}
use Rattle.data_value.specs.declared.DataSort.{DataSort}
use Rattle.data_value.specs.declared.Value.{Value}
use Rattle.data_value.specs.Sorts.{is_scalar_sort}
use Rattle.data_value.specs.Nodes.{Seen, IsValuation}
use Rattle.data_value.specs.Truth.{truth, mean_same, IsCondition}
use Rattle.simplify.specs.declared.pair.Pair.{Pair}
use Rattle.prover.specs.declared.parts.Parts.{Parts}

-- The two nodes of a pair mean the same.
abbrev pub AreEqual : {N : Type 0} → (N → Seen N) → List Value → Pair N → Type 0
AreEqual look v p = mean_same (look p.first) (look p.second) v ≡ true

-- A node is true.
abbrev pub IsTrueNode : {N : Type 0} → (N → Seen N) → List Value → N → Type 0
IsTrueNode look v n = truth (look n) v ≡ true

-- The two nodes of each pair mean the same, and all of the others are true.
pub record PartsHold {N : Type 0} (look : N → Seen N) (v : List Value) (parts : Parts N) : Type 0 where
  pub equal : All (AreEqual look v) parts.pairs.items
  pub holds : All (IsTrueNode look v) parts.others.items

-- Two truth values, or two words of one width.
pub record IsEquation {N : Type 0} (look : N → Seen N) (p : Pair N) : Type 0 where
  pub first : IsTrue (look p.first).valid
  pub second : IsTrue (look p.second).valid
  pub scalar : is_scalar_sort (look p.first).sort ≡ true
  pub sort : (look p.second).sort ≡ (look p.first).sort

-- Pairs of scalars, and conditions.
pub record AreParts {N : Type 0} (look : N → Seen N) (parts : Parts N) : Type 0 where
  pub equations : All (IsEquation look) parts.pairs.items
  pub conditions : All (λ n. IsCondition (look n)) parts.others.items

-- Parts that hold exactly where a condition is true.
pub record IsSplit {N : Type 0} (look : N → Seen N) (s : Seen N) (parts : Parts N) : Type 0 where
  pub fits : AreParts look parts
  pub means : (v : List Value) → (truth s v ≡ true) ↔ PartsHold look v parts

-- A condition that is true exactly where parts hold, as far as the valuation is one of the variables.
pub record IsJoined {N : Type 0} (variables : List DataSort) (look : N → Seen N) (parts : Parts N) (s : Seen N) : Type 0 where
  pub condition : IsCondition s
  pub means : (v : List Value) → IsValuation variables v → (truth s v ≡ true) ↔ PartsHold look v parts

-- A condition that is true exactly where the two nodes of each pair mean the same.
pub record AreEquated {N : Type 0} (look : N → Seen N) (pairs : List (Pair N)) (s : Seen N) : Type 0 where
  pub condition : IsCondition s
  pub means : (v : List Value) → (truth s v ≡ true) ↔ All (AreEqual look v) pairs

-- A condition that is true exactly where all of a list are, under each valuation of the variables that gives the two nodes of each pair one meaning.
pub record AreAllReplaced {N : Type 0} (variables : List DataSort) (look : N → Seen N) (pairs : List (Pair N)) (conditions : List N) (s : Seen N) : Type 0 where
  pub condition : IsCondition s
  pub means : (v : List Value) → IsValuation variables v → All (AreEqual look v) pairs → (truth s v ≡ true) ↔ All (IsTrueNode look v) conditions
