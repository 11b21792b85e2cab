-- What holds of the operators, of maps and of the trials, whatever the arguments.
use Rattle.std.specs.Prelude.{◌≡◌, ◌≢◌, ℕ, Bool, ◌<◌, ◌^◌, IsTrue, ◌↔◌, ◌⊎◌, List, ◌++◌, Some, All, map, length, take, drop, slice_get}
use Rattle.data_value.specs.declared.DataSort.{DataSort}
use Rattle.data_value.specs.declared.Scalar.{Scalar}
use Rattle.data_value.specs.declared.Value.{Value}
use Rattle.data_value.specs.declared.Value.TheVariants.{One}
use Rattle.data_value.specs.declared.Op.{Op}
use Rattle.data_value.specs.declared.Op.TheVariants.{Get, Put}
use Rattle.data_value.specs.declared.flat_formula.FlatNode.TheVariants.{Apply}
use Rattle.data_value.specs.Sorts.{IsSort, is_sort, same_sort, op_sort}
use Rattle.data_value.specs.Maps.{Mapping, IsMapping, SameReads, DifferSomewhere, read, write, put_into}
use Rattle.data_value.specs.Values.{scalar_sort, map_sort, value_sort, IsScalar, IsValue, IsValueOf, is_value, same_scalar}
use Rattle.data_value.specs.Ops.{scalar_value, op_value}
use Rattle.data_value.specs.declared.flat_formula.FlatNode.{FlatNode}
use Rattle.data_value.specs.declared.flat_formula.Flat.{Flat}
use Rattle.data_value.specs.Flat.{AreWords, node_value, flat_sorts, flat_values}
use Rattle.data_value.specs.Nodes.{IsValuation}
use Rattle.data_value.specs.Trials.{trial}

-- At values of sorts that an operator takes, its value is a value of the sort that it gives.
abbrev pub OperatorsKeepSorts : Type 0
OperatorsKeepSorts = (op : Op) (args : List Value) (s : DataSort) → All IsValue args → op_sort op (map value_sort args) ≡ Some s → IsValueOf s (op_value op args)

-- At scalars of sorts that an operator takes, its value is that of its values at scalars, and a scalar of the sort that it gives.
abbrev pub ScalarsKeepSorts : Type 0
ScalarsKeepSorts = (op : Op) (args : List Scalar) (s : DataSort) → All IsScalar args → op_sort op (map scalar_sort args) ≡ Some s → (op_value op (map One args) ≡ One (scalar_value op args)) × IsValueOf s (One (scalar_value op args))

-- The sort that an operator gives sorts is a sort.
abbrev pub OperatorsGiveSorts : Type 0
OperatorsGiveSorts = (op : Op) (sorts : List DataSort) (s : DataSort) → All IsSort sorts → op_sort op sorts ≡ Some s → IsSort s

-- The sort of a value is a sort.
abbrev pub ValuesHaveSorts : Type 0
ValuesHaveSorts = (v : Value) → IsValue v → IsSort (value_sort v)

-- The test for values tells them.
abbrev pub TestTellsValues : Type 0
TestTellsValues = (v : Value) → IsTrue (is_value v) ↔ IsValue v

-- The test for sorts in range tells them.
abbrev pub TestTellsSortsInRange : Type 0
TestTellsSortsInRange = (s : DataSort) → IsTrue (is_sort s) ↔ IsSort s

-- The test for equal sorts tells them.
abbrev pub TestTellsSorts : Type 0
TestTellsSorts = (a b : DataSort) → IsTrue (same_sort a b) ↔ (a ≡ b)

-- The test for equal scalars, which is the value of the operator for equality, tells them.
abbrev pub TestTellsScalars : Type 0
TestTellsScalars = (a b : Scalar) → IsTrue (same_scalar a b) ↔ (a ≡ b)

-- A test is true exactly of equals.
abbrev pub IsEquality : {X : Type 0} → (X → X → Bool) → Type 0
IsEquality {X} eq = (a b : X) → IsTrue (eq a b) ↔ (a ≡ b)

-- Every sort has a value.
abbrev pub EverySortHasValue : Type 0
EverySortHasValue = (s : DataSort) → IsSort s → (v : Value) × IsValueOf s v

-- A valuation of joined lists of sorts is a valuation of each part.
abbrev pub ValuationsPart : Type 0
ValuationsPart = (ss ts : List DataSort) (v : List Value) → IsValuation (ss ++ ts) v ↔ (IsValuation ss (take (length ss) v) × IsValuation ts (drop (length ss) v))

-- Valuations of two lists of sorts, joined, are a valuation of the joined sorts.
abbrev pub ValuationsJoin : Type 0
ValuationsJoin = (ss ts : List DataSort) (v w : List Value) → IsValuation ss v → IsValuation ts w → IsValuation (ss ++ ts) (v ++ w)

-- Every list of sorts has a valuation.
abbrev pub SortsHaveValuation : Type 0
SortsHaveValuation = (ss : List DataSort) → All IsSort ss → (v : List Value) × IsValuation ss v

-- Every trial gives variables of these sorts values of these sorts, in their order.
abbrev pub TrialsFit : Type 0
TrialsFit = (t : ℕ) (sorts : List DataSort) → All IsSort sorts → All IsValue (trial t sorts) × (map value_sort (trial t sorts) ≡ sorts)

-- Two maps are equal exactly where their widths and all their reads are.
abbrev pub MapsAreReads : Type 0
MapsAreReads = (m n : Mapping) → IsMapping m → IsMapping n → (m ≡ n) ↔ SameReads m n

-- Two maps of one sort are equal, or there is a key at which their reads differ.
abbrev pub MapsDifferSomewhere : Type 0
MapsDifferSomewhere = (m n : Mapping) → IsMapping m → IsMapping n → map_sort m ≡ map_sort n → (m ≡ n) ⊎ DifferSomewhere m.key_width m.entries n.entries

-- Every read of a map is one of its words.
abbrev pub ReadsAreWords : Type 0
ReadsAreWords = (m : Mapping) (k : ℕ) → IsMapping m → read m.entries k < 2 ^ m.word_width

-- A put gives a map.
abbrev pub PutsAreMaps : Type 0
PutsAreMaps = (m : Mapping) (k v : ℕ) → IsMapping m → k < 2 ^ m.key_width → v < 2 ^ m.word_width → IsMapping (put_into m k v)

-- A put reads back.
abbrev pub PutsReadBack : Type 0
PutsReadBack = (es : List (ℕ × ℕ)) (k v : ℕ) → read (write es k v) k ≡ v

-- A put leaves the other keys alone.
abbrev pub PutsLeaveOthers : Type 0
PutsLeaveOthers = (es : List (ℕ × ℕ)) (k v j : ℕ) → j ≢ k → read (write es k v) j ≡ read es j

-- At each place of a formula stands the value that its node has by the values before it.
abbrev pub PlacesHaveValues : Type 0
PlacesHaveValues = (widths words : List ℕ) (nodes : List FlatNode) (k : ℕ) (n : FlatNode) → slice_get nodes k ≡ Some n → slice_get (flat_values widths words nodes) k ≡ Some (node_value widths words (take k (flat_values widths words nodes)) n)

-- The value at each place of a formula is a scalar of the sort of that place.
abbrev pub PlacesKeepSorts : Type 0
PlacesKeepSorts = (flat : Flat) (words : List ℕ) → AreWords flat.widths words → All IsScalar (flat_values flat.widths words flat.nodes) × (map scalar_sort (flat_values flat.widths words flat.nodes) ≡ flat_sorts flat.widths flat.nodes)

-- No node of a formula is an operator on maps.
abbrev pub FormulasLackMaps : Type 0
FormulasLackMaps = (flat : Flat) (k : ℕ) (op : Op) (args : List ℕ) → slice_get flat.nodes k ≡ Some (Apply op args) → (op ≢ Get) × (op ≢ Put)
