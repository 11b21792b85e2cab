-- The 64 trial valuations of a list of sorts, numbered from 0.
use Rattle.std.specs.Prelude.{ℕ, ◌+◌, ◌-◌, ◌*◌, ◌/◌, ◌%◌, ◌^◌, ◌==◌, bit_xor, if◌then◌else◌, List, [], ◌∷◌}
use Rattle.data_value.specs.declared.DataSort.{DataSort}
use Rattle.data_value.specs.declared.DataSort.TheVariants.{Bool as BoolSort, Bits as BitsSort, Map as MapSort}
use Rattle.data_value.specs.declared.Scalar.TheVariants.{Flag, Bits}
use Rattle.data_value.specs.declared.Value.{Value}
use Rattle.data_value.specs.declared.Value.TheVariants.{One, Map}
use Rattle.data_value.specs.Maps.{zero_map}

-- How many trials there are.
abbrev pub trial_count : ℕ
trial_count = 64

-- The 64 bits that trial t draws for the variable at place i.
abbrev pub drawn : ℕ → ℕ → ℕ
drawn t i =
    let x = (t * 0x9E3779B97F4A7C15 + (i + 1) * 0xBF58476D1CE4E5B9) % 2 ^ 64 in
    bit_xor x (x / 2 ^ 32)

-- The word of width w that trial t gives the variable at place i: zero, all ones and one in the first three trials, and then drawn bits.
abbrev pub trial_word : ℕ → ℕ → ℕ → ℕ
trial_word t i w = if t == 0 then 0 else if t == 1 then 2 ^ w - 1 else if t == 2 then 1 else drawn t i % 2 ^ w

-- The value that trial t gives the variable at place i: a truth value is a word of one bit, and every map is zero.
abbrev pub trial_value : ℕ → ℕ → DataSort → Value
trial_value t i BoolSort = One (Flag (trial_word t i 1 == 1))
trial_value t i (BitsSort w) = One (Bits w (trial_word t i w))
trial_value t i (MapSort k v) = Map (zero_map k v)

-- The values that trial t gives the variables of these sorts, the first of them at place i.
abbrev pub trial_values : ℕ → ℕ → List DataSort → List Value
trial_values t i [] = []
trial_values t i (s ∷ ss) = trial_value t i s ∷ trial_values t (i + 1) ss

-- The valuation that trial t gives variables of these sorts.
abbrev pub trial : ℕ → List DataSort → List Value
trial t = trial_values t 0
