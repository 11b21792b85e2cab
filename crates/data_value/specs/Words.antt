-- What the operators do to words, over whole numbers. A word of width w is a number below 2^w. Division by zero and
-- shifts by the width or more are those of the theory FixedSizeBitVectors of SMT-LIB and of its logic QF_BV.
use Rattle.std.specs.Prelude.{ℕ, ◌+◌, ◌-◌, ◌*◌, ◌/◌, ◌%◌, ◌^◌, Bool, ◌==◌, nat_lt, nat_le, if◌then◌else◌}

-- A number cut to its w lowest bits.
abbrev pub wrap : ℕ → ℕ → ℕ
wrap w x = x % 2 ^ w

-- The quotient rounded down, all ones where the divisor is zero.
abbrev pub quotient : ℕ → ℕ → ℕ → ℕ
quotient w x y = if y == 0 then 2 ^ w - 1 else x / y

-- The remainder, the dividend where the divisor is zero.
abbrev pub remainder : ℕ → ℕ → ℕ
remainder x y = if y == 0 then x else x % y

-- Whether the top bit of a word of width w is set.
abbrev pub is_negative : ℕ → ℕ → Bool
is_negative w x = nat_le (2 ^ (w - 1)) x

-- The number that two's complement reads, plus 2^(w-1): the signed order is the order of these ranks.
abbrev pub signed_rank : ℕ → ℕ → ℕ
signed_rank w x = if is_negative w x then x - 2 ^ (w - 1) else x + 2 ^ (w - 1)

-- A word moved up by y bits, zero where y is the width or more.
abbrev pub shift_left : ℕ → ℕ → ℕ → ℕ
shift_left w x y = if nat_lt y w then wrap w (x * 2 ^ y) else 0

-- A word moved down by y bits, zero where y is the width or more.
abbrev pub shift_right : ℕ → ℕ → ℕ → ℕ
shift_right w x y = if nat_lt y w then x / 2 ^ y else 0

-- The word of width w whose y top bits are set, all of them where y is the width or more.
abbrev pub top_ones : ℕ → ℕ → ℕ
top_ones w y = 2 ^ w - 2 ^ (w - y)

-- A word moved down by y bits, with copies of its top bit above.
abbrev pub shift_signed : ℕ → ℕ → ℕ → ℕ
shift_signed w x y = if is_negative w x then shift_right w x y + top_ones w y else shift_right w x y

-- The bits lo to hi of a word.
abbrev pub bits_between : ℕ → ℕ → ℕ → ℕ
bits_between hi lo x = wrap (hi - lo + 1) (x / 2 ^ lo)

-- A word of width w, widened to n bits by copies of its top bit.
abbrev pub extend_signed : ℕ → ℕ → ℕ → ℕ
extend_signed w n x = if is_negative w x then x + top_ones n (n - w) else x
