-- The valuation that words and reads give.
use Rattle.std.specs.Prelude.{◌≡◌, ℕ, ◌==◌, suc, List, [], ◌∷◌, All, fold, slice_index, if◌then◌else◌}
use Rattle.data_value.specs.declared.DataSort.{DataSort}
use Rattle.data_value.specs.declared.DataSort.TheVariants.{Bool as BoolSort, Bits as BitsSort, Map as MapSort}
use Rattle.data_value.specs.declared.Scalar.TheVariants.{Flag, Bits}
use Rattle.data_value.specs.declared.Value.{Value}
use Rattle.data_value.specs.declared.Value.TheVariants.{One, Map}
use Rattle.data_value.specs.Values.{word_of}
use Rattle.data_value.specs.Maps.{Mapping, zero_map, put_into}
use Rattle.data_value.specs.Flat.{MakesTrue}
use Rattle.map_reads.specs.declared.read.Read.{Read}
use Rattle.map_reads.specs.declared.read.Reads.{Reads}
use Rattle.map_reads.specs.Tied.{value_in, Tied}

-- The map of the variable i with the word of a read put at the value of its key, where the read is of that variable.
abbrev pub with_read : Reads → List ℕ → ℕ → Mapping → Read → Mapping
with_read reads words i m r =
    if r.variable == i then put_into m (word_of (value_in reads.flat.widths reads.flat.nodes words r.key)) (slice_index words r.word) else m

-- The value of the variable i, of this sort: that of its input's word, or the map that has the words of its reads and no others.
abbrev pub lifted_value : Reads → List ℕ → ℕ → DataSort → Value
lifted_value reads words i BoolSort = One (Flag (slice_index words (slice_index reads.scalars i) == 1))
lifted_value reads words i (BitsSort w) = One (Bits w (slice_index words (slice_index reads.scalars i)))
lifted_value reads words i (MapSort k w) = Map (fold (with_read reads words i) (zero_map k w) reads.reads)

-- The values of variables of these sorts, the first of them at place i.
abbrev pub lifted_from : Reads → List ℕ → ℕ → List DataSort → List Value
lifted_from reads words i [] = []
lifted_from reads words i (s ∷ ss) = lifted_value reads words i s ∷ lifted_from reads words (suc i) ss

-- The valuation that words give.
abbrev pub lifted : Reads → List ℕ → List Value
lifted reads words = lifted_from reads words 0 reads.sorts

-- The words of all reads are zero.
abbrev pub ReadsAreZero : Reads → List ℕ → Type 0
ReadsAreZero reads words = All (λ (r : Read). slice_index words r.word ≡ 0) reads.reads

-- A scalar, or a map that is zero at every key.
abbrev pub HasNoEntries : Value → Type 0
HasNoEntries (One s) = Unit {0}
HasNoEntries (Map m) = m.entries ≡ []

-- The words make the formula of reads true.
abbrev pub FlatHolds : Reads → List ℕ → Type 0
FlatHolds reads words = MakesTrue reads.flat.widths reads.flat.nodes reads.flat.root words

-- Words and a valuation of the variables of reads say the same.
abbrev pub TiedBy : Reads → List ℕ → List Value → Type 0
TiedBy reads words v = Tied reads.scalars reads.flat.widths reads.flat.nodes reads.reads words v
