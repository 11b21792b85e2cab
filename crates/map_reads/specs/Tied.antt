-- Words and valuations that say the same.
use Rattle.std.specs.Prelude.{◌≡◌, ℕ, ◌+◌, ◌<◌, ◌==◌, List, length, Option, Some, slice_get, slice_index, slice_index_or, true, false}
use Rattle.std.specs.List.{list_all}
use Rattle.data_value.specs.declared.DataSort.{DataSort}
use Rattle.data_value.specs.declared.DataSort.TheVariants.{Bool as BoolSort, Bits as BitsSort, Map as MapSort}
use Rattle.data_value.specs.declared.Scalar.{Scalar}
use Rattle.data_value.specs.declared.Scalar.TheVariants.{Flag, Bits}
use Rattle.data_value.specs.declared.Value.{Value}
use Rattle.data_value.specs.declared.Value.TheVariants.{One, Map}
use Rattle.data_value.specs.declared.flat_formula.FlatNode.{FlatNode}
use Rattle.data_value.specs.Sorts.{is_sort}
use Rattle.data_value.specs.Values.{word_of, map_of}
use Rattle.data_value.specs.Maps.{read}
use Rattle.data_value.specs.Flat.{flat_sorts, flat_values}
use Rattle.data_value.specs.Views.{value_at}
use Rattle.map_reads.specs.declared.read.Read.{Read}

-- The sort of a place of a formula over inputs of these widths, none where it has no such place.
abbrev pub sort_in : List ℕ → List FlatNode → ℕ → Option DataSort
sort_in widths nodes p = slice_get (flat_sorts widths nodes) p

-- The value of a place of a formula under words for inputs of these widths.
abbrev pub value_in : List ℕ → List FlatNode → List ℕ → ℕ → Scalar
value_in widths nodes words p = slice_index_or (flat_values widths words nodes) p (Flag false)

-- The width of a variable's input. A truth value is a word of one bit; nobody reads the input of a map variable.
abbrev pub input_width : DataSort → ℕ
input_width BoolSort = 1
input_width (BitsSort w) = w
input_width (MapSort k w) = 1

-- The value of a scalar variable is that of a word: a truth value is true where the word is 1.
abbrev pub IsWordOf : Value → ℕ → Type 0
IsWordOf (One (Flag b)) w = b ≡ (w == 1)
IsWordOf (One (Bits n x)) w = x ≡ w
IsWordOf (Map m) w = Unit {0}

-- The word that the map of a read has at the value of its key.
abbrev pub word_read : List ℕ → List FlatNode → List ℕ → List Value → Read → ℕ
word_read widths nodes words v r = read (map_of (value_at v r.variable)).entries (word_of (value_in widths nodes words r.key))

-- Words and a valuation say the same: each scalar variable has the value of its input's word, and each read's word is what its map has at the value of its key.
pub record Tied (scalars widths : List ℕ) (nodes : List FlatNode) (reads : List Read) (words : List ℕ) (v : List Value) : Type 0 where
  pub variables : (i : ℕ) → i < length v → IsWordOf (value_at v i) (slice_index words (slice_index scalars i))
  pub words_read : (k : ℕ) (r : Read) → slice_get reads k ≡ Some r → slice_index words r.word ≡ word_read widths nodes words v r

-- The first n words are the same.
abbrev pub SameBelow : ℕ → List ℕ → List ℕ → Type 0
SameBelow n words others = (i : ℕ) → i < n → slice_index words i ≡ slice_index others i

-- The widths of the keys and of the words of a sort of maps, zero for a sort of scalars.
abbrev pub keys_of : DataSort → ℕ
keys_of (MapSort k w) = k
keys_of _ = 0

abbrev pub words_of : DataSort → ℕ
words_of (MapSort k w) = w
words_of _ = 0

-- The widths of the keys and of the words of the map that is read.
abbrev pub key_width : List DataSort → Read → ℕ
key_width sorts r = keys_of (slice_index_or sorts r.variable BoolSort)

abbrev pub word_width : List DataSort → Read → ℕ
word_width sorts r = words_of (slice_index_or sorts r.variable BoolSort)

-- The k-th read: of a map variable, at a key of its sort, with the input of its width that follows those of the variables and of the earlier reads. Its key stands on no later input.
pub record IsRead (sorts : List DataSort) (widths : List ℕ) (nodes : List FlatNode) (k : ℕ) (r : Read) : Type 0 where
  pub map : slice_get sorts r.variable ≡ Some (MapSort (key_width sorts r) (word_width sorts r))
  pub key : sort_in widths nodes r.key ≡ Some (BitsSort (key_width sorts r))
  pub word : r.word ≡ length sorts + k
  pub width : slice_get widths r.word ≡ Some (word_width sorts r)
  pub early : (words others : List ℕ) → SameBelow (length sorts + k) words others → value_in widths nodes words r.key ≡ value_in widths nodes others r.key

-- The inputs of variables of these sorts and of reads: first those of the variables, one each, then those of the reads.
pub record AreReads (sorts : List DataSort) (scalars widths : List ℕ) (nodes : List FlatNode) (reads : List Read) : Type 0 where
  pub sorts_fit : list_all is_sort sorts ≡ true
  pub count : length widths ≡ length sorts + length reads
  pub inputs : (i : ℕ) (s : DataSort) → slice_get sorts i ≡ Some s → (slice_get scalars i ≡ Some i) × (slice_get widths i ≡ Some (input_width s))
  pub each : (k : ℕ) (r : Read) → slice_get reads k ≡ Some r → IsRead sorts widths nodes k r
