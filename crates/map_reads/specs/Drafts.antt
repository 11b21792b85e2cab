-- Formulas under way.
use Rattle.std.specs.Prelude.{◌≡◌, ℕ, List, [], ◌∷◌, ◌++◌, length, All, Option, Some, slice_get, if◌then◌else◌}
use Rattle.data_value.specs.declared.DataSort.{DataSort}
use Rattle.data_value.specs.declared.Scalar.{Scalar}
use Rattle.data_value.specs.declared.Scalar.TheVariants.{Bits}
use Rattle.data_value.specs.declared.Value.{Value}
use Rattle.data_value.specs.declared.flat_formula.FlatNode.{FlatNode}
use Rattle.data_value.specs.Sorts.{IsWidth}
use Rattle.data_value.specs.Values.{same_scalar}
use Rattle.data_value.specs.Nodes.{IsValuation}
use Rattle.data_value.specs.Views.{BeginsWith}
use Rattle.data_value.specs.Flat.{HaveSorts}
use Rattle.map_reads.specs.declared.read.Read.{Read}
use Rattle.map_reads.specs.declared.draft.Draft.{Draft}
use Rattle.map_reads.specs.Tied.{sort_in, value_in, Tied, AreReads}

-- the sort and the value of a place
abbrev pub sort_at : Draft → ℕ → Option DataSort
sort_at d p = sort_in d.widths d.nodes p

abbrev pub value_of : Draft → List ℕ → ℕ → Scalar
value_of d words p = value_in d.widths d.nodes words p

-- words and a valuation say the same, as far as the draft goes
abbrev pub TiedTo : Draft → List ℕ → List Value → Type 0
TiedTo d words v = Tied d.scalars d.widths d.nodes d.reads words v

-- its nodes have sorts, and its reads have their inputs
pub record IsDraft (d : Draft) : Type 0 where
  pub widths_fit : All IsWidth d.widths
  pub nodes_fit : HaveSorts d.widths d.nodes
  pub reads_fit : AreReads d.sorts d.scalars d.widths d.nodes d.reads

-- a draft with more nodes, inputs and reads
pub record Grows (old new : Draft) : Type 0 where
  pub sorts : new.sorts ≡ old.sorts
  pub scalars : new.scalars ≡ old.scalars
  pub widths : BeginsWith new.widths old.widths
  pub nodes : BeginsWith new.nodes old.nodes
  pub reads : BeginsWith new.reads old.reads

-- the draft got this node, at that place
pub record IsPushed (old new : Draft) (p : ℕ) (n : FlatNode) : Type 0 where
  pub place : p ≡ length old.nodes
  pub nodes : new.nodes ≡ old.nodes ++ n ∷ []
  pub sorts : new.sorts ≡ old.sorts
  pub scalars : new.scalars ≡ old.scalars
  pub widths : new.widths ≡ old.widths
  pub reads : new.reads ≡ old.reads

-- a place of this sort, with this value under all words, in a draft that got no more reads
pub record HasValue (old new : Draft) (p : ℕ) (t : DataSort) (value : List ℕ → Scalar) : Type 0 where
  pub grows : Grows old new
  pub draft : IsDraft new
  pub reads : new.reads ≡ old.reads
  pub sort : sort_at new p ≡ Some t
  pub means : (words : List ℕ) → value_of new words p ≡ value words

-- a place of this sort, with this value wherever words and a valuation say the same
pub record Stands (d : Draft) (p : ℕ) (t : DataSort) (meant : List Value → Scalar) : Type 0 where
  pub sort : sort_at d p ≡ Some t
  pub means : (words : List ℕ) (v : List Value) → IsValuation d.sorts v → TiedTo d words v → value_of d words p ≡ meant v

-- such a place in a draft that has grown
pub record IsPlaced (old new : Draft) (p : ℕ) (t : DataSort) (meant : List Value → Scalar) : Type 0 where
  pub grows : Grows old new
  pub draft : IsDraft new
  pub stands : Stands new p t meant

-- a draft over variables of these sorts, with no nodes and no reads
pub record IsBegun (variables : List DataSort) (d : Draft) : Type 0 where
  pub draft : IsDraft d
  pub sorts : d.sorts ≡ variables

-- a read of this variable at this place of a key has this input
pub record IsFound (reads : List Read) (variable key word : ℕ) : Type 0 where
  pub place : ℕ
  pub at : slice_get reads place ≡ Some (record { variable = variable; key = key; word = word })

-- the draft got one more read, of this variable at this place of a key, whose input is a new one of this width
pub record IsNewRead (old new : Draft) (variable key width word : ℕ) : Type 0 where
  pub input : word ≡ length old.widths
  pub widths : new.widths ≡ old.widths ++ width ∷ []
  pub reads : new.reads ≡ old.reads ++ (record { variable = variable; key = key; word = word }) ∷ []
  pub nodes : new.nodes ≡ old.nodes
  pub sorts : new.sorts ≡ old.sorts
  pub scalars : new.scalars ≡ old.scalars

-- the draft has such a read, a new one or one that it had
pub record HasRead (old new : Draft) (variable key word : ℕ) : Type 0 where
  pub grows : Grows old new
  pub draft : IsDraft new
  pub found : IsFound new.reads variable key word

-- what entries between words of these widths have at a key
abbrev pub entry_at : ℕ → ℕ → List (ℕ × ℕ) → Scalar → Scalar
entry_at k w [] key = Bits w 0
entry_at k w (e ∷ es) key = if same_scalar (Bits k e.0) key then Bits w e.1 else entry_at k w es key
