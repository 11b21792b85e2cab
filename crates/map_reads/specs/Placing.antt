-- Where the nodes of lines stand.
use Rattle.std.specs.Prelude.{◌≡◌, ℕ, ◌<◌, ◌≤◌, List, [], ◌∷◌, length, map, reverse, take, Some, slice_get, false, true, IsTrue}
use Rattle.data_value.specs.declared.DataSort.{DataSort}
use Rattle.data_value.specs.declared.DataSort.TheVariants.{Bits as BitsSort, Map as MapSort}
use Rattle.data_value.specs.declared.Scalar.{Scalar as ScalarOf}
use Rattle.data_value.specs.declared.Value.{Value}
use Rattle.data_value.specs.declared.Op.{Op}
use Rattle.data_value.specs.declared.Op.TheVariants.{Get, Put as PutOp}
use Rattle.data_value.specs.declared.flat_formula.FlatNode.TheVariants.{Apply}
use Rattle.data_value.specs.Sorts.{is_scalar_sort, op_sort}
use Rattle.data_value.specs.Values.{scalar_of, IsValueOf}
use Rattle.data_value.specs.Ops.{op_value}
use Rattle.data_value.specs.Nodes.{Seen, IsValuation, Apply as Shows}
use Rattle.data_value.specs.Views.{shown_args, value_at}
use Rattle.node_list.specs.declared.line.Line.{Line}
use Rattle.node_list.specs.Listed.{StandsAt, StandAt}
use Rattle.map_reads.specs.declared.draft.Draft.{Draft}
use Rattle.map_reads.specs.declared.placing.Place.{Place}
use Rattle.map_reads.specs.declared.placing.Place.TheVariants.{Scalar, Map, Over}
use Rattle.map_reads.specs.declared.placing.Put.{Put}
use Rattle.map_reads.specs.declared.placing.Chain.{Chain}
use Rattle.map_reads.specs.Drafts.{IsDraft, Grows, IsPushed, Stands}

-- a scalar's line
pub record IsScalarAt (places : List Place) (line : ℕ) : Type 0 where
  pub place : ℕ
  pub at : slice_get places line ≡ Some (Scalar place)

-- each map that was put into is that of an earlier line
abbrev pub PointDown : List Place → Type 0
PointDown places = (k m : ℕ) (put : Put) → slice_get places k ≡ Some (Over m put) → m < k

-- what was put, the next one first, leads from the map of a line up to that of another
abbrev pub LeadsUp : List Place → ℕ → List Put → ℕ → Type 0
LeadsUp places top [] line = line ≡ top
LeadsUp places top (put ∷ puts) line = (above : ℕ) × (slice_get places above ≡ Some (Over line put)) × LeadsUp places top puts above

-- all that was put into the map of a line
pub record IsChain (places : List Place) (top : ℕ) (chain : Chain) : Type 0 where
  pub within : chain.base < length places
  pub leads : LeadsUp places top (reverse chain.puts.items) chain.base
  pub ends : (m : ℕ) (put : Put) → slice_get places chain.base ≡ Some (Over m put) → ⊥

-- the draft got an operator at the places of these lines
pub record IsApplication (places : List Place) (lines : List ℕ) (op : Op) (old new : Draft) (p : ℕ) : Type 0 where
  pub args : List ℕ
  pub at : map (λ line. slice_get places line) lines ≡ map (λ arg. Some (Scalar arg)) args
  pub pushed : IsPushed old new p (Apply op args)

-- the scalar that a node means
abbrev pub scalar_meant : {N : Type 0} → Seen N → List Value → ScalarOf
scalar_meant s v = scalar_of (s.meaning v)

-- a word stands at a place
pub record IsWordAt {N : Type 0} (d : Draft) (p : ℕ) (width : ℕ) (s : Seen N) : Type 0 where
  pub stands : Stands d p (BitsSort width) (scalar_meant s)
  pub value : (v : List Value) → IsValuation d.sorts v → IsValueOf (BitsSort width) (s.meaning v)

-- a map is another one after a word was put at a key
pub record IsOver {N : Type 0} (d : Draft) (above below : Seen N) (put : Put) : Type 0 where
  pub key_width : ℕ
  pub word_width : ℕ
  pub sort : above.sort ≡ MapSort key_width word_width
  pub same_sort : below.sort ≡ above.sort
  pub key : Seen N
  pub word : Seen N
  pub key_at : IsWordAt d put.key key_width key
  pub word_at : IsWordAt d put.word word_width word
  pub map_value : (v : List Value) → IsValuation d.sorts v → IsValueOf (MapSort key_width word_width) (below.meaning v)
  pub means : (v : List Value) → above.meaning v ≡ op_value PutOp (below.meaning v ∷ key.meaning v ∷ word.meaning v ∷ [])

-- a scalar with this value stands there, or it is no scalar
abbrev pub HasPlace : Draft → DataSort → (List Value → ScalarOf) → Place → Type 0
HasPlace d t meant (Scalar p) = (is_scalar_sort t ≡ true) × Stands d p t meant
HasPlace d t meant Map = is_scalar_sort t ≡ false
HasPlace d t meant (Over m put) = ⊥

-- a node of the line k stands there
abbrev pub StandsFor : {N : Type 0} → (N → Seen N) → Draft → List (Line N) → ℕ → Seen N → Place → Type 0
StandsFor look d lines k s (Scalar p) = (is_scalar_sort s.sort ≡ true) × Stands d p s.sort (scalar_meant s)
StandsFor look d lines k s Map = (is_scalar_sort s.sort ≡ false) × (shown_args s.shown ≡ [])
StandsFor {N} look d lines k s (Over m put) = (m < k) × ((below : Seen N) × StandsAt look lines m below × IsOver d s below put)

-- the first lines have their places
pub record HavePlaces {N : Type 0} (look : N → Seen N) (d : Draft) (lines : List (Line N)) (places : List Place) : Type 0 where
  pub within : length places ≤ length lines
  pub each : (k : ℕ) (line : Line N) (place : Place) → slice_get lines k ≡ Some line → slice_get places k ≡ Some place → StandsFor look d lines k (look line.node) place

-- so has the line k, in a draft that has grown
pub record IsNext {N : Type 0} (look : N → Seen N) (old new : Draft) (lines : List (Line N)) (k : ℕ) (place : Place) : Type 0 where
  pub grows : Grows old new
  pub draft : IsDraft new
  pub stands : (line : Line N) → slice_get lines k ≡ Some line → StandsFor look new lines k (look line.node) place

-- the nodes of two lines are a map and a key that it takes
pub record IsGet {N : Type 0} (look : N → Seen N) (lines : List (Line N)) (places : List Place) (map_line key_line : ℕ) : Type 0 where
  pub sort : DataSort
  pub map_node : Seen N
  pub key_node : Seen N
  pub map_at : StandsAt look lines map_line map_node
  pub key_at : StandsAt look lines key_line key_node
  pub map_within : map_line < length places
  pub key_within : key_line < length places
  pub sorted : op_sort Get (map_node.sort ∷ key_node.sort ∷ []) ≡ Some sort

-- what a map has at a key
abbrev pub read_meant : {N : Type 0} → Seen N → Seen N → List Value → ScalarOf
read_meant m k v = scalar_of (op_value Get (m.meaning v ∷ k.meaning v ∷ []))

-- these nodes have these places, in a draft that has grown
pub record ArePlaced {N : Type 0} (look : N → Seen N) (old new : Draft) (nodes : List N) (places : List ℕ) : Type 0 where
  pub grows : Grows old new
  pub draft : IsDraft new
  pub count : length places ≡ length nodes
  pub each : (i : ℕ) (n : N) (p : ℕ) → slice_get nodes i ≡ Some n → slice_get places i ≡ Some p → Stands new p (look n).sort (scalar_meant (look n))

-- a node that means a truth value or a word
pub record IsScalarNode {N : Type 0} (s : Seen N) : Type 0 where
  pub valid : IsTrue s.valid
  pub scalar : is_scalar_sort s.sort ≡ true

-- the line k is an operator at the nodes of these lines
pub record IsApply {N : Type 0} (look : N → Seen N) (lines : List (Line N)) (k : ℕ) (op : Op) (args : List ℕ) : Type 0 where
  pub line : Line N
  pub at : slice_get lines k ≡ Some line
  pub nodes : List N
  pub shown : (look line.node).shown ≡ Shows op nodes
  pub stand : StandAt look (take k lines) args nodes

-- a node that is a variable or a constant stands there, in a draft that has grown
pub record IsLeaf {N : Type 0} (old new : Draft) (s : Seen N) (place : Place) : Type 0 where
  pub grows : Grows old new
  pub draft : IsDraft new
  pub stands : HasPlace new s.sort (scalar_meant s) place

-- so stands the variable i
pub record IsVariableAt (old new : Draft) (i : ℕ) (place : Place) : Type 0 where
  pub grows : Grows old new
  pub draft : IsDraft new
  pub stands : (t : DataSort) → slice_get old.sorts i ≡ Some t → HasPlace new t (λ v. scalar_of (value_at v i)) place
