-- What holds of the nodes of every domain.
use Rattle.std.specs.Prelude.{◌≡◌, IsTrue, List, length, Some}
use Rattle.data_value.specs.declared.DataSort.{DataSort}
use Rattle.data_value.specs.declared.Scalar.{Scalar}
use Rattle.data_value.specs.declared.Value.{Value}
use Rattle.data_value.specs.declared.Value.TheVariants.{One}
use Rattle.data_value.specs.Sorts.{IsSort}
use Rattle.data_value.specs.Values.{IsValueOf}
use Rattle.data_value.specs.Nodes.{Seen, IsValuation}
use Rattle.data_value.specs.Views.{AgreeBelow}

-- Under a valuation of the domain's variables a node means a value of its sort.
abbrev pub MeansItsSort : {N : Type 0} → (N → Seen N) → List DataSort → N → Type 0
MeansItsSort look variables n = IsTrue (look n).valid → (v : List Value) → IsValuation variables v → IsValueOf (look n).sort ((look n).meaning v)

-- The sort of a node is a sort.
abbrev pub HasSort : {N : Type 0} → (N → Seen N) → N → Type 0
HasSort look n = IsTrue (look n).valid → IsSort (look n).sort

-- What a node is known as it means under every valuation, and it is a scalar of the node's sort.
abbrev pub MeansWhatIsKnown : {N : Type 0} → (N → Seen N) → N → Type 0
MeansWhatIsKnown look n = IsTrue (look n).valid → (c : Scalar) → (look n).known ≡ Some c → IsValueOf (look n).sort (One c) × ((v : List Value) → (look n).meaning v ≡ One c)

-- A node's meaning depends on the values of the domain's variables alone.
abbrev pub DependsOnVariables : {N : Type 0} → (N → Seen N) → List DataSort → N → Type 0
DependsOnVariables look variables n = IsTrue (look n).valid → (v w : List Value) → AgreeBelow (length variables) v w → (look n).meaning v ≡ (look n).meaning w
