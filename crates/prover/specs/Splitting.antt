-- Conditions that are being taken apart. Lines are gone through from the last one down, and the marked ones are joined by "and".
use Rattle.std.specs.Prelude.{◌≡◌, ◌↔◌, ◌⊎◌, ◌<◌, ◌+◌, ℕ, Bool, true, List, [], ◌∷◌, All, length, slice_get, Some}
use Rattle.data_value.specs.declared.Value.{Value}
use Rattle.data_value.specs.Nodes.{Seen}
use Rattle.data_value.specs.Truth.{truth, IsCondition}
use Rattle.node_list.specs.declared.line.Line.{Line}
use Rattle.node_list.specs.Listed.{StandsAt}
use Rattle.simplify.specs.declared.pair.Pair.{Pair}
use Rattle.prover.specs.declared.parts.Parts.{Parts}
use Rattle.prover.specs.Parts.{AreParts, PartsHold}

-- The place p is marked.
abbrev pub IsMarked : List Bool → ℕ → Type 0
IsMarked marks p = slice_get marks p ≡ Some true

-- A mark for each of so many places, and the last alone is marked.
pub record IsLastMark (count : ℕ) (marks : List Bool) : Type 0 where
  pub count_is : length marks ≡ count
  pub last : (p : ℕ) → (IsMarked marks p) ↔ (p + 1 ≡ count)

-- The nodes of marked lines below the place n are true, and the parts hold.
pub record Remains {N : Type 0} (look : N → Seen N) (v : List Value) (lines : List (Line N)) (n : ℕ) (marks : List Bool) (parts : Parts N) : Type 0 where
  pub marked : (p : ℕ) (line : Line N) → p < n → IsMarked marks p → slice_get lines p ≡ Some line → truth (look line.node) v ≡ true
  pub others : PartsHold look v parts

-- The condition s is taken apart down to the place n.
pub record IsSplitting {N : Type 0} (look : N → Seen N) (s : Seen N) (lines : List (Line N)) (n : ℕ) (marks : List Bool) (parts : Parts N) : Type 0 where
  pub conditions : (p : ℕ) (line : Line N) → p < n → IsMarked marks p → slice_get lines p ≡ Some line → IsCondition (look line.node)
  pub fits : AreParts look parts
  pub means : (v : List Value) → (truth s v ≡ true) ↔ Remains look v lines n marks parts

-- These places are marked, and no others are that weren't.
pub record AreMarkedMore (places : List ℕ) (old new : List Bool) : Type 0 where
  pub kept : (p : ℕ) → IsMarked old p → IsMarked new p
  pub these : All (IsMarked new) places
  pub only : (p : ℕ) → IsMarked new p → (IsMarked old p) ⊎ ((i : ℕ) × (slice_get places i ≡ Some p))

-- Two places below n.
abbrev pub AreTwoIn : ℕ → List ℕ → Type 0
AreTwoIn n places = (a b : ℕ) × (places ≡ a ∷ b ∷ []) × (a < n) × (b < n)

-- The nodes of a pair look as those of the lines at two places.
pub record IsPairAt {N : Type 0} (look : N → Seen N) (lines : List (Line N)) (a b : ℕ) (p : Pair N) : Type 0 where
  pub first : StandsAt look lines a (look p.first)
  pub second : StandsAt look lines b (look p.second)

-- The nodes of a pair look as those of the lines at these two places, in one order or the other.
abbrev pub ArePaired : {N : Type 0} → (N → Seen N) → List (Line N) → List ℕ → Pair N → Type 0
ArePaired look lines places p = (a b : ℕ) → places ≡ a ∷ b ∷ [] → IsPairAt look lines a b p ⊎ IsPairAt look lines b a p
