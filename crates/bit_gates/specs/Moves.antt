-- Words moved up or down by any number of bits.
use Rattle.std.specs.Prelude.{ℕ, ◌-◌, ◌*◌, ◌/◌, ◌%◌, ◌^◌, Bool, if◌then◌else◌}
use Rattle.refute_check.specs.Truth.{lit_true}
use Rattle.bit_gates.specs.declared.builder.Builder.{Builder}
use Rattle.bit_gates.specs.Meaning.{HasLit}
use Rattle.bit_gates.specs.declared.shifts.Direction.{Direction}
use Rattle.bit_gates.specs.declared.shifts.Direction.TheVariants.{Up, Down}

-- a number x of w bits, moved down by n bits, with copies of v above
abbrev pub moved_down : ℕ → Bool → ℕ → ℕ → ℕ
moved_down w v x n = if v then 2 ^ w - 1 - (2 ^ w - 1 - x) / 2 ^ n else x / 2 ^ n

-- a number x of w bits, moved by n bits in a direction
abbrev pub moved : (ℕ → Bool) → Direction → ℕ → ℕ → ℕ → ℕ
moved a Up w x n = (x * 2 ^ n) % 2 ^ w
moved a (Down fill) w x n = moved_down w (lit_true a fill) x n

-- a direction whose literal is of one of the variables
abbrev pub HasFill : Builder → Direction → Type 0
HasFill b Up = Unit {0}
HasFill b (Down fill) = HasLit b fill
