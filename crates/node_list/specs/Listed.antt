-- Nodes as lists of lines.
use Rattle.std.specs.Prelude.{◌≡◌, ℕ, ◌+◌, IsTrue, List, [], ◌∷◌, length, take, slice_get, Option, Some}
use Rattle.data_value.specs.Nodes.{Seen, Shown, Apply}
use Rattle.data_value.specs.Views.{shown_args}
use Rattle.node_list.specs.declared.line.Line.{Line}
use Rattle.node_list.specs.declared.line.Made.{Made}
use Rattle.node_list.specs.declared.line.Made.TheVariants as made

-- At place p of a list of lines stands a node that looks as s.
abbrev pub StandsAt : {N : Type 0} → (N → Seen N) → List (Line N) → ℕ → Seen N → Type 0
StandsAt {N} look lines p s = (line : Line N) × (slice_get lines p ≡ Some line) × (look line.node ≡ s)

-- At these places stand nodes that look as these, one by one.
abbrev pub StandAt : {N : Type 0} → (N → Seen N) → List (Line N) → List ℕ → List N → Type 0
StandAt look lines [] [] = Unit {0}
StandAt look lines [] (n ∷ ns) = ⊥
StandAt look lines (p ∷ ps) [] = ⊥
StandAt look lines (p ∷ ps) (n ∷ ns) = StandsAt look lines p (look n) × StandAt look lines ps ns

-- what is shown is made of nodes at these places
abbrev pub IsMadeOf : {N : Type 0} → Shown N → List ℕ → Made → Type 0
IsMadeOf shown places made.Leaf = shown_args shown ≡ []
IsMadeOf {N} shown places (made.Apply op ps) = (args : List N) × (shown ≡ Apply op args) × (ps ≡ places)

-- A node that looks as s is made this way of the nodes of lines.
abbrev pub IsMade : {N : Type 0} → (N → Seen N) → List (Line N) → Seen N → Made → Type 0
IsMade look before s made.Leaf = shown_args s.shown ≡ []
IsMade {N} look before s (made.Apply op places) = (args : List N) × (s.shown ≡ Apply op args) × StandAt look before places args

-- A line after these.
pub record IsLine {N : Type 0} (look : N → Seen N) (before : List (Line N)) (line : Line N) : Type 0 where
  pub valid : IsTrue (look line.node).valid
  pub made : IsMade look before (look line.node) line.made

-- Each line is one after those before it.
abbrev pub AreLines : {N : Type 0} → (N → Seen N) → List (Line N) → Type 0
AreLines {N} look lines = (k : ℕ) (line : Line N) → slice_get lines k ≡ Some line → IsLine look (take k lines) line

-- Under each number that has a place is kept a node that looks as the one at the place.
abbrev pub ArePlaced : {N : Type 0} → (N → Seen N) → List (Line N) → (ℕ → Option ℕ) → Type 0
ArePlaced {N} look lines places = (i p : ℕ) → places i ≡ Some p → (n : N) × IsTrue (look n).valid × ((look n).id ≡ Some i) × StandsAt look lines p (look n)

-- the place of each line is kept under the number of its node, where it has one
abbrev pub AreRemembered : {N : Type 0} → (N → Seen N) → List (Line N) → (ℕ → Option ℕ) → Type 0
AreRemembered {N} look lines places = (k i : ℕ) (line : Line N) → slice_get lines k ≡ Some line → (look line.node).id ≡ Some i → places i ≡ Some k

-- no two lines are of nodes that are kept under one number
abbrev pub AreOnce : {N : Type 0} → (N → Seen N) → List (Line N) → Type 0
AreOnce {N} look lines = (j k i : ℕ) (a b : Line N) → slice_get lines j ≡ Some a → slice_get lines k ≡ Some b → (look a.node).id ≡ Some i → (look b.node).id ≡ Some i → j ≡ k

-- lines, and the places of the nodes that are kept under numbers
pub record IsListing {N : Type 0} (look : N → Seen N) (lines : List (Line N)) (places : ℕ → Option ℕ) : Type 0 where
  pub ordered : AreLines look lines
  pub placed : ArePlaced look lines places
  pub remembered : AreRemembered look lines places

-- lines of which the last is of a node that looks as s
pub record IsListed {N : Type 0} (look : N → Seen N) (s : Seen N) (lines : List (Line N)) : Type 0 where
  pub ordered : AreLines look lines
  pub once : AreOnce look lines
  pub last : (p : ℕ) × (length lines ≡ p + 1) × StandsAt look lines p s
