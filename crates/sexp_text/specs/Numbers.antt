-- Which number a text of atom bytes writes.
use Rattle.std.specs.Prelude.{ℕ, ◌^◌, List, Bool, ◌&&◌, ◌==◌, nat_lt, slice_index, length, drop, Option, Some, None, if◌then◌else◌}
use Rattle.std.specs.List.{list_all}
use Rattle.std.specs.Char.{is_digit}
use Rattle.std.specs.Str.Parse.{digits_value}

-- one digit of the base or more, nothing else, and a value below 2^64
abbrev pub is_number : ℕ → List ℕ → Bool
is_number base text = nat_lt 0 (length text) && (list_all (λ c. is_digit c base) text && nat_lt (digits_value base text) (2 ^ 64))

-- the number that the digits of a base write
abbrev pub number_in : ℕ → List ℕ → Option ℕ
number_in base text = if is_number base text then Some (digits_value base text) else None

-- the text begins with `0x`
abbrev pub is_hex : List ℕ → Bool
is_hex text = (slice_index text 0 == 48) && (slice_index text 1 == 120)

-- the number that decimal digits write, or that hexadecimal digits of either case write behind `0x`
abbrev pub number_of : List ℕ → Option ℕ
number_of text = if is_hex text then number_in 16 (drop 2 text) else number_in 10 text
