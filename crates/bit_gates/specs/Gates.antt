-- What a gate of two inputs gives two truth values, and two words bit by bit.
use Rattle.std.specs.Prelude.{ℕ, Bool, ◌&&◌, ◌||◌, bit_and, bit_or, bit_xor}
use Rattle.bit_gates.specs.declared.bitwise.Gate.{Gate}
use Rattle.bit_gates.specs.declared.bitwise.Gate.TheVariants.{And, Or, Xor}
use Rattle.bit_gates.specs.Bits.{exclusive_or}

-- the truth value of a gate
abbrev pub gate_value : Gate → Bool → Bool → Bool
gate_value And x y = x && y
gate_value Or x y = x || y
gate_value Xor x y = exclusive_or x y

-- the number whose bits are the gate's values at the bits of two numbers
abbrev pub gate_number : Gate → ℕ → ℕ → ℕ
gate_number And = bit_and
gate_number Or = bit_or
gate_number Xor = bit_xor
