-- Formulas without maps: a list of nodes, each of which names earlier places. Their sorts, and their values under words.
use Rattle.std.specs.Prelude.{◌≡◌, ℕ, ◌<◌, ◌^◌, nat_lt, if◌then◌else◌, IsSome, unwrap_or, Option, Some, None, List, [], ◌∷◌, ◌++◌, length, take, map, fold, All, slice_get, slice_index, slice_index_or}
use Rattle.std.specs.Prelude.{true, false}
use Rattle.std.specs.List.{list_all}
use Rattle.data_value.specs.declared.DataSort.{DataSort}
use Rattle.data_value.specs.declared.DataSort.TheVariants.{Bool as BoolSort, Bits as BitsSort}
use Rattle.data_value.specs.declared.Scalar.{Scalar}
use Rattle.data_value.specs.declared.Scalar.TheVariants.{Flag, Bits}
use Rattle.data_value.specs.declared.flat_formula.FlatNode.{FlatNode}
use Rattle.data_value.specs.declared.flat_formula.FlatNode.TheVariants.{Input, Fixed, Apply}
use Rattle.data_value.specs.Sorts.{IsWidth, op_sort}
use Rattle.data_value.specs.Values.{scalar_sort, is_scalar}
use Rattle.data_value.specs.Ops.{scalar_value}

-- What a list has at places, in their order, d where it has nothing.
abbrev pub at_places : {X : Type 0} → X → List X → List ℕ → List X
at_places d xs places = map (λ p. slice_index_or xs p d) places

-- The sort of a node over inputs of these widths, where the places before it have these sorts; none where it isn't lawful there.
abbrev pub node_sort : List ℕ → List DataSort → FlatNode → Option DataSort
node_sort widths sorts (Input i) = if nat_lt i (length widths) then Some (BitsSort (slice_index widths i)) else None
node_sort widths sorts (Fixed s) = if is_scalar s then Some (scalar_sort s) else None
node_sort widths sorts (Apply op args) = if list_all (λ p. nat_lt p (length sorts)) args then op_sort op (at_places BoolSort sorts args) else None

-- The value of a node under words for inputs of these widths, where the places before it have these values.
abbrev pub node_value : List ℕ → List ℕ → List Scalar → FlatNode → Scalar
node_value widths words values (Input i) = Bits (slice_index widths i) (slice_index words i)
node_value widths words values (Fixed s) = s
node_value widths words values (Apply op args) = scalar_value op (at_places (Flag false) values args)

-- The list that f makes of nodes in turn: of each node by what it made of those before.
unfoldable pub in_turn : {N X : Type 0} → (List X → N → X) → List N → List X
in_turn f nodes = fold (λ xs n. xs ++ f xs n ∷ []) [] nodes

-- The sorts of the places of nodes over inputs of these widths.
abbrev pub flat_sorts : List ℕ → List FlatNode → List DataSort
flat_sorts widths nodes = in_turn (λ sorts n. unwrap_or (node_sort widths sorts n) BoolSort) nodes

-- The values of the places of nodes under words for inputs of these widths.
abbrev pub flat_values : List ℕ → List ℕ → List FlatNode → List Scalar
flat_values widths words nodes = in_turn (node_value widths words) nodes

-- Each node has a sort after those before it. So its arguments stand before it, and no operator on maps occurs.
abbrev pub HaveSorts : List ℕ → List FlatNode → Type 0
HaveSorts widths nodes = (k : ℕ) (n : FlatNode) → slice_get nodes k ≡ Some n → IsSome (node_sort widths (flat_sorts widths (take k nodes)) n)

-- The widths are widths, the nodes have sorts, and at the root stands a truth value.
pub record IsFlat (widths : List ℕ) (nodes : List FlatNode) (root : ℕ) : Type 0 where
  pub widths_fit : All IsWidth widths
  pub nodes_fit : HaveSorts widths nodes
  pub root_fits : slice_get (flat_sorts widths nodes) root ≡ Some BoolSort

-- A word for each width, which holds it.
pub record AreWords (widths words : List ℕ) : Type 0 where
  pub count : length words ≡ length widths
  pub fit : (k : ℕ) → k < length widths → slice_index words k < 2 ^ slice_index widths k

-- The words make the formula true.
abbrev pub MakesTrue : List ℕ → List FlatNode → ℕ → List ℕ → Type 0
MakesTrue widths nodes root words = slice_get (flat_values widths words nodes) root ≡ Some (Flag true)
