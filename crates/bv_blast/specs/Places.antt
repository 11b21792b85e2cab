-- The literals of the values at the places of a formula.
use Rattle.std.specs.Prelude.{ℕ, ◌≡◌, Bool, List, length, map, All, Some}
use Rattle.refute_check.specs.Truth.{lit_true}
use Rattle.data_value.specs.declared.DataSort.{DataSort}
use Rattle.data_value.specs.declared.DataSort.TheVariants.{Bool as BoolSort, Bits as BitsSort}
use Rattle.data_value.specs.declared.Scalar.{Scalar}
use Rattle.data_value.specs.declared.Scalar.TheVariants.{Flag as FlagValue, Bits as WordValue}
use Rattle.data_value.specs.declared.Op.{Op}
use Rattle.data_value.specs.declared.flat_formula.FlatNode.{FlatNode}
use Rattle.data_value.specs.Sorts.{op_sort}
use Rattle.data_value.specs.Values.{scalar_sort}
use Rattle.data_value.specs.Ops.{scalar_value}
use Rattle.data_value.specs.Flat.{node_sort, node_value, flat_sorts, flat_values}
use Rattle.bit_gates.specs.declared.builder.Builder.{Builder}
use Rattle.bit_gates.specs.Bits.{number}
use Rattle.bit_gates.specs.Grows.{Holds}
use Rattle.bit_gates.specs.Meaning.{HasLit, HasLits}
use Rattle.bv_blast.specs.declared.place.Place.{Place}
use Rattle.bv_blast.specs.declared.place.Place.TheVariants.{Flag, Word}
use Rattle.bv_blast.specs.Inputs.{words_of, widths_of}

-- the sort of the value that stands at a place
abbrev pub place_sort : Place → DataSort
place_sort (Flag z) = BoolSort
place_sort (Word zs) = BitsSort (length zs)

-- the value that a place spells under an assignment
abbrev pub place_value : (ℕ → Bool) → Place → Scalar
place_value a (Flag z) = FlagValue (lit_true a z)
place_value a (Word zs) = WordValue (length zs) (number a zs)

-- a place whose literals are of the variables
abbrev pub HasPlace : Builder → Place → Type 0
HasPlace b (Flag z) = HasLit b z
HasPlace b (Word zs) = HasLits b zs

-- the place has the operator's value at these places wherever the clauses are true
pub record HasOpValue (b : Builder) (op : Op) (args : List Place) (p : Place) : Type 0 where
  pub in_range : HasPlace b p
  pub sort : op_sort op (map place_sort args) ≡ Some (place_sort p)
  pub means : (a : ℕ → Bool) → Holds b a → place_value a p ≡ scalar_value op (map (place_value a) args)

-- the place has this value wherever the clauses are true
pub record HasValue (b : Builder) (s : Scalar) (p : Place) : Type 0 where
  pub in_range : HasPlace b p
  pub sort : place_sort p ≡ scalar_sort s
  pub means : (a : ℕ → Bool) → Holds b a → place_value a p ≡ s

-- the place has the node's value after these places wherever the clauses are true
pub record HasNodeValue (b : Builder) (inputs : List (List ℕ)) (places : List Place) (n : FlatNode) (p : Place) : Type 0 where
  pub in_range : HasPlace b p
  pub sort : node_sort (widths_of inputs) (map place_sort places) n ≡ Some (place_sort p)
  pub means : (a : ℕ → Bool) → Holds b a → place_value a p ≡ node_value (widths_of inputs) (words_of a inputs) (map (place_value a) places) n

-- the places have the nodes' values wherever the clauses are true
pub record HaveNodeValues (b : Builder) (inputs : List (List ℕ)) (nodes : List FlatNode) (places : List Place) : Type 0 where
  pub in_range : All (HasPlace b) places
  pub sorts : map place_sort places ≡ flat_sorts (widths_of inputs) nodes
  pub means : (a : ℕ → Bool) → Holds b a → map (place_value a) places ≡ flat_values (widths_of inputs) (words_of a inputs) nodes
