-- Values, their sorts, and their parts.
use Rattle.std.specs.Prelude.{◌≡◌, ℕ, ◌<◌, ◌^◌, Bool, true, false, not, ◌&&◌, ◌==◌, nat_lt, if◌then◌else◌}
use Rattle.data_value.specs.declared.DataSort.{DataSort}
use Rattle.data_value.specs.declared.DataSort.TheVariants.{Bool as BoolSort, Bits as BitsSort, Map as MapSort}
use Rattle.data_value.specs.declared.Scalar.{Scalar}
use Rattle.data_value.specs.declared.Scalar.TheVariants.{Flag, Bits}
use Rattle.data_value.specs.declared.Value.{Value}
use Rattle.data_value.specs.declared.Value.TheVariants.{One, Map}
use Rattle.data_value.specs.Sorts.{IsWidth, is_width}
use Rattle.data_value.specs.Maps.{Mapping, IsMapping, is_mapping, zero_map}

-- The sort of a scalar.
abbrev pub scalar_sort : Scalar → DataSort
scalar_sort (Flag b) = BoolSort
scalar_sort (Bits w x) = BitsSort w

-- The sort of a map.
abbrev pub map_sort : Mapping → DataSort
map_sort m = MapSort m.key_width m.word_width

-- The sort of a value.
abbrev pub value_sort : Value → DataSort
value_sort (One s) = scalar_sort s
value_sort (Map m) = map_sort m

-- A scalar is a truth value, or a word that its width holds.
abbrev pub IsScalar : Scalar → Type 0
IsScalar (Flag b) = Unit {0}
IsScalar (Bits w x) = IsWidth w × (x < 2 ^ w)

-- A value is a scalar or a map.
abbrev pub IsValue : Value → Type 0
IsValue (One s) = IsScalar s
IsValue (Map m) = IsMapping m

-- A value of a sort.
pub record IsValueOf (s : DataSort) (v : Value) : Type 0 where
  pub value : IsValue v
  pub sort : value_sort v ≡ s

-- Whether a scalar is one.
abbrev pub is_scalar : Scalar → Bool
is_scalar (Flag b) = true
is_scalar (Bits w x) = is_width w && nat_lt x (2 ^ w)

-- Whether a value is one.
abbrev pub is_value : Value → Bool
is_value (One s) = is_scalar s
is_value (Map m) = is_mapping m

-- The truth value that a scalar is, false where it is a word.
abbrev pub flag_of : Scalar → Bool
flag_of (Flag b) = b
flag_of (Bits w x) = false

-- The number that a scalar is, zero where it is a truth value.
abbrev pub word_of : Scalar → ℕ
word_of (Flag b) = 0
word_of (Bits w x) = x

-- The width of a scalar, zero where it is a truth value.
abbrev pub width_of : Scalar → ℕ
width_of (Flag b) = 0
width_of (Bits w x) = w

-- The scalar that a value is, false where it is a map.
abbrev pub scalar_of : Value → Scalar
scalar_of (One s) = s
scalar_of (Map m) = Flag false

-- The map that a value is, without widths and entries where it is a scalar.
abbrev pub map_of : Value → Mapping
map_of (One s) = zero_map 0 0
map_of (Map m) = m

-- Whether two scalars are equal.
abbrev pub same_scalar : Scalar → Scalar → Bool
same_scalar (Flag a) (Flag b) = if a then b else not b
same_scalar (Bits v x) (Bits w y) = (v == w) && (x == y)
same_scalar _ _ = false
