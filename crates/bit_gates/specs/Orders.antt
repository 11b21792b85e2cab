-- The order of words that are read in two's complement.
use Rattle.std.specs.Prelude.{ℕ, Bool, nat_lt, nat_le}
use Rattle.data_value.specs.Words.{signed_rank}

-- of two numbers of w bits the first is below the second, or at most the second
abbrev pub signed_lt : ℕ → ℕ → ℕ → Bool
signed_lt w x y = nat_lt (signed_rank w x) (signed_rank w y)

abbrev pub signed_le : ℕ → ℕ → ℕ → Bool
signed_le w x y = nat_le (signed_rank w x) (signed_rank w y)
