-- Nodes that are built for lines.
use Rattle.std.specs.Prelude.{◌≡◌, ℕ, IsTrue, List, [], ◌∷◌, slice_get, Some}
use Rattle.data_value.specs.declared.DataSort.{DataSort}
use Rattle.data_value.specs.Nodes.{Seen, Apply}
use Rattle.node_list.specs.declared.line.Line.{Line}
use Rattle.node_list.specs.declared.line.Made.{Made}
use Rattle.node_list.specs.declared.line.Made.TheVariants as made
use Rattle.simplify.specs.Pairs.{Equated}
use Rattle.simplify.specs.Simpler.{IsSimplerUnder}

-- At each place stands a node.
abbrev pub AreThere : {N : Type 0} → (N → Seen N) → List N → List ℕ → Type 0
AreThere look nodes [] = Unit {0}
AreThere {N} look nodes (p ∷ ps) = ((n : N) × (slice_get nodes p ≡ Some n) × IsTrue (look n).valid) × AreThere look nodes ps

-- The nodes at places look as these, one by one.
abbrev pub AreCopied : {N : Type 0} → (N → Seen N) → List N → List ℕ → List N → Type 0
AreCopied look nodes [] [] = Unit {0}
AreCopied look nodes [] (m ∷ ms) = ⊥
AreCopied look nodes (p ∷ ps) [] = ⊥
AreCopied {N} look nodes (p ∷ ps) (m ∷ ms) = ((n : N) × (slice_get nodes p ≡ Some n) × (look m ≡ look n)) × AreCopied look nodes ps ms

-- At a place stands a node that is simpler than s.
abbrev pub IsSimplerAt : {N : Type 0} → List DataSort → List (Equated N) → (N → Seen N) → List N → ℕ → Seen N → Type 0
IsSimplerAt {N} variables pairs look nodes p s = (n : N) × (slice_get nodes p ≡ Some n) × IsSimplerUnder variables pairs s (look n)

-- At places stand nodes that are simpler than these, one by one.
abbrev pub AreSimplerAt : {N : Type 0} → List DataSort → List (Equated N) → (N → Seen N) → List N → List ℕ → List N → Type 0
AreSimplerAt variables pairs look nodes [] [] = Unit {0}
AreSimplerAt variables pairs look nodes [] (m ∷ ms) = ⊥
AreSimplerAt variables pairs look nodes (p ∷ ps) [] = ⊥
AreSimplerAt variables pairs look nodes (p ∷ ps) (m ∷ ms) = IsSimplerAt variables pairs look nodes p (look m) × AreSimplerAt variables pairs look nodes ps ms

-- Where a node is made of others, simpler ones stand at their places.
abbrev pub IsReadyMade : {N : Type 0} → List DataSort → List (Equated N) → (N → Seen N) → List N → Seen N → Made → Type 0
IsReadyMade variables pairs look nodes s made.Leaf = Unit {0}
IsReadyMade {N} variables pairs look nodes s (made.Apply op places) = (args : List N) × (s.shown ≡ Apply op args) × AreSimplerAt variables pairs look nodes places args

-- A line, where nodes were built for those before it.
pub record IsReady {N : Type 0} (variables : List DataSort) (pairs : List (Equated N)) (look : N → Seen N) (built : List N) (line : Line N) : Type 0 where
  pub valid : IsTrue (look line.node).valid
  pub made : IsReadyMade variables pairs look built (look line.node) line.made

-- A node that was built for a line.
pub record IsBuilt {N : Type 0} (variables : List DataSort) (pairs : List (Equated N)) (look : N → Seen N) (line : Line N) (n : N) : Type 0 where
  pub valid : IsTrue (look line.node).valid
  pub simpler : IsSimplerUnder variables pairs (look line.node) (look n)

-- Nodes were built for lines, one by one.
abbrev pub AreBuilt : {N : Type 0} → List DataSort → List (Equated N) → (N → Seen N) → List (Line N) → List N → Type 0
AreBuilt variables pairs look [] [] = Unit {0}
AreBuilt variables pairs look [] (n ∷ ns) = ⊥
AreBuilt variables pairs look (line ∷ lines) [] = ⊥
AreBuilt variables pairs look (line ∷ lines) (n ∷ ns) = IsBuilt variables pairs look line n × AreBuilt variables pairs look lines ns
