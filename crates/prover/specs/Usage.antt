-- The variables that a node uses.
use Rattle.std.specs.Prelude.{◌≡◌, ◌<◌, ◌+◌, ℕ, Bool, true, false, List, [], length, slice_get, Some}
use Rattle.data_value.specs.declared.DataSort.{DataSort}
use Rattle.data_value.specs.declared.Scalar.TheVariants.{Flag, Bits}
use Rattle.data_value.specs.declared.Value.{Value}
use Rattle.data_value.specs.declared.Value.TheVariants.{One, Map}
use Rattle.data_value.specs.Values.{IsValueOf}
use Rattle.data_value.specs.Nodes.{Seen, Variable, IsValuation}
use Rattle.data_value.specs.Views.{shown_args, value_at}
use Rattle.node_list.specs.declared.line.Line.{Line}
use Rattle.node_list.specs.declared.line.Made.{Made}
use Rattle.node_list.specs.declared.line.Made.TheVariants.{Leaf, Apply}
use Rattle.prover.specs.Splitting.{IsMarked}

-- A node is the whole, or an argument of one of its parts.
pub data IsPart {N : Type 0} (look : N → Seen N) (whole : Seen N) : Seen N → Type 0 where
  itself : IsPart look whole whole
  argument : (s : Seen N) (i : ℕ) (n : N) → IsPart look whole s → slice_get (shown_args s.shown) i ≡ Some n → IsPart look whole (look n)

-- A node uses the variable i: one of its parts is this variable.
abbrev pub Uses : {N : Type 0} → (N → Seen N) → Seen N → ℕ → Type 0
Uses {N} look s i = (t : Seen N) × IsPart look s t × (t.shown ≡ Variable i)

-- The value is false, zero, or the map that is zero everywhere.
abbrev pub IsZero : Value → Type 0
IsZero (One (Flag b)) = b ≡ false
IsZero (One (Bits w n)) = n ≡ 0
IsZero (Map m) = m.entries ≡ []

-- A mark for each of so many places, none of which is marked.
pub record AreUnmarked (count : ℕ) (marks : List Bool) : Type 0 where
  pub count_is : length marks ≡ count
  pub none : (p : ℕ) → IsMarked marks p → ⊥

-- Every variable that a node doesn't use has a zero value.
abbrev pub AreUnusedZero : {N : Type 0} → (N → Seen N) → Seen N → List Value → Type 0
AreUnusedZero look s v = (i : ℕ) → (Uses look s i → ⊥) → IsZero (value_at v i)

-- Two valuations give each marked variable one value.
abbrev pub AgreeAt : List Bool → List Value → List Value → Type 0
AgreeAt marks v w = (i : ℕ) → IsMarked marks i → value_at v i ≡ value_at w i

-- Only variables that a node uses are marked, and its meaning depends on marked ones alone.
pub record AreUsed {N : Type 0} (look : N → Seen N) (s : Seen N) (count : ℕ) (marks : List Bool) : Type 0 where
  pub count_is : length marks ≡ count
  pub only : (i : ℕ) → IsMarked marks i → Uses look s i
  pub enough : (v w : List Value) → AgreeAt marks v w → s.meaning v ≡ s.meaning w

-- The places of the lines that a line is made of.
abbrev pub places_of : Made → List ℕ
places_of Leaf = []
places_of (Apply op places) = places

-- The last line is marked, marked lines are of parts of s, and marked variables are used by s. From the place n on the parts that a marked line is made of are marked.
pub record IsSearching {N : Type 0} (look : N → Seen N) (s : Seen N) (lines : List (Line N)) (n : ℕ) (parts variables : List Bool) : Type 0 where
  pub root : (p : ℕ) → length lines ≡ p + 1 → IsMarked parts p
  pub parts_of : (p : ℕ) (line : Line N) → IsMarked parts p → slice_get lines p ≡ Some line → IsPart look s (look line.node)
  pub only : (i : ℕ) → IsMarked variables i → Uses look s i
  pub leaves : (p i : ℕ) (line : Line N) → (p < n → ⊥) → IsMarked parts p → slice_get lines p ≡ Some line → (look line.node).shown ≡ Variable i → IsMarked variables i
  pub arguments : (p k q : ℕ) (line : Line N) → (p < n → ⊥) → IsMarked parts p → slice_get lines p ≡ Some line → slice_get (places_of line.made) k ≡ Some q → IsMarked parts q

-- The value v of a used variable of sort t, or a zero value of this sort.
pub record IsClearedValue (t : DataSort) (used : Bool) (v x : Value) : Type 0 where
  pub fits : IsValueOf t x
  pub kept : used ≡ true → x ≡ v
  pub zero : used ≡ false → IsZero x

-- A valuation of the variables that agrees with v at marked ones, with a zero value for each other one.
pub record IsCleared (variables : List DataSort) (marks : List Bool) (v w : List Value) : Type 0 where
  pub fits : IsValuation variables w
  pub kept : AgreeAt marks w v
  pub zero : (i : ℕ) → (IsMarked marks i → ⊥) → IsZero (value_at w i)
