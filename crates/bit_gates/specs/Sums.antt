-- Sums of bits and of words, with the bit that is carried out of them.
use Rattle.std.specs.Prelude.{ℕ, ◌≡◌, ◌+◌, ◌*◌, ◌^◌, Bool, List, length}
use Rattle.refute_check.specs.declared.lit.Lit.{Lit}
use Rattle.refute_check.specs.Truth.{lit_true}
use Rattle.bit_gates.specs.declared.builder.Builder.{Builder}
use Rattle.bit_gates.specs.declared.sums.BitSum.{BitSum}
use Rattle.bit_gates.specs.declared.sums.Sum.{Sum}
use Rattle.bit_gates.specs.Bits.{bit, number}
use Rattle.bit_gates.specs.Grows.{Holds}
use Rattle.bit_gates.specs.Meaning.{HasLit, HasLits}

-- s is the sum of three bits
pub record IsBitSum (b : Builder) (x y c : Lit) (s : BitSum) : Type 0 where
  pub low : HasLit b s.low
  pub high : HasLit b s.high
  pub means : (a : ℕ → Bool) → Holds b a → bit (lit_true a s.low) + 2 * bit (lit_true a s.high) ≡ bit (lit_true a x) + bit (lit_true a y) + bit (lit_true a c)

-- s is the sum of two words and the bit c
pub record IsSum (b : Builder) (xs ys : List Lit) (c : Lit) (s : Sum) : Type 0 where
  pub low : HasLits b s.bits
  pub high : HasLit b s.carry
  pub width : length s.bits ≡ length xs
  pub means : (a : ℕ → Bool) → Holds b a → number a s.bits + 2 ^ length xs * bit (lit_true a s.carry) ≡ number a xs + number a ys + bit (lit_true a c)
