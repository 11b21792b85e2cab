-- The value of each operator. It looks at the number of its arguments alone, and takes their parts by projections
-- that every scalar and every value has, so that equations between values need no premise on sorts.
use Rattle.std.specs.Prelude.{ℕ, ◌+◌, ◌-◌, ◌*◌, ◌^◌, Bool, false, not, ◌&&◌, ◌||◌, nat_lt, nat_le, bit_and, bit_or, bit_xor, if◌then◌else◌, List, [], ◌∷◌, map}
use Rattle.data_value.specs.declared.Scalar.{Scalar}
use Rattle.data_value.specs.declared.Scalar.TheVariants.{Flag, Bits}
use Rattle.data_value.specs.declared.Value.{Value}
use Rattle.data_value.specs.declared.Value.TheVariants.{One, Map}
use Rattle.data_value.specs.declared.Op.{Op}
use Rattle.data_value.specs.declared.Op.TheVariants.{Not, And, Or, Ite, Eq, BvNot, Neg, Add, Sub, Mul, Udiv, Urem, BvAnd, BvOr, BvXor, Shl, Lshr, Ashr, Ult, Ule, Slt, Sle, Concat, Extract, Zext, Sext, Get, Put}
use Rattle.data_value.specs.Words.{wrap, quotient, remainder, signed_rank, shift_left, shift_right, shift_signed, bits_between, extend_signed}
use Rattle.data_value.specs.Maps.{read, put_into}
use Rattle.data_value.specs.Values.{flag_of, word_of, width_of, scalar_of, map_of, same_scalar}

-- One truth value a, which gives f a.
abbrev pub on_flag : (Bool → Bool) → List Scalar → Scalar
on_flag f (a ∷ []) = Flag (f (flag_of a))
on_flag f _ = Flag false

-- Two truth values a and b, which give f a b.
abbrev pub on_flags : (Bool → Bool → Bool) → List Scalar → Scalar
on_flags f (a ∷ b ∷ []) = Flag (f (flag_of a) (flag_of b))
on_flags f _ = Flag false

-- A truth value and two scalars, which give the first scalar where it is true and else the second.
abbrev pub choice : List Scalar → Scalar
choice (c ∷ a ∷ b ∷ []) = if flag_of c then a else b
choice _ = Flag false

-- Two scalars, which give whether they are equal.
abbrev pub equality : List Scalar → Scalar
equality (a ∷ b ∷ []) = Flag (same_scalar a b)
equality _ = Flag false

-- One word x of width w, which gives f w x.
abbrev pub on_word : (ℕ → ℕ → Scalar) → List Scalar → Scalar
on_word f (a ∷ []) = f (width_of a) (word_of a)
on_word f _ = Flag false

-- Two words x and y, the first of width w, which give f w x y.
abbrev pub on_words : (ℕ → ℕ → ℕ → Scalar) → List Scalar → Scalar
on_words f (a ∷ b ∷ []) = f (width_of a) (word_of a) (word_of b)
on_words f _ = Flag false

-- Two words, which give the first with the second below it.
abbrev pub concatenation : List Scalar → Scalar
concatenation (a ∷ b ∷ []) = Bits (width_of a + width_of b) (word_of a * 2 ^ width_of b + word_of b)
concatenation _ = Flag false

-- The value of an operator at scalars.
abbrev pub scalar_value : Op → List Scalar → Scalar
scalar_value Not = on_flag (λ a. not a)
scalar_value And = on_flags (λ a b. a && b)
scalar_value Or = on_flags (λ a b. a || b)
scalar_value Ite = choice
scalar_value Eq = equality
scalar_value BvNot = on_word (λ w x. Bits w (2 ^ w - 1 - x))
scalar_value Neg = on_word (λ w x. Bits w (wrap w (2 ^ w - x)))
scalar_value Add = on_words (λ w x y. Bits w (wrap w (x + y)))
scalar_value Sub = on_words (λ w x y. Bits w (wrap w (x + 2 ^ w - y)))
scalar_value Mul = on_words (λ w x y. Bits w (wrap w (x * y)))
scalar_value Udiv = on_words (λ w x y. Bits w (quotient w x y))
scalar_value Urem = on_words (λ w x y. Bits w (remainder x y))
scalar_value BvAnd = on_words (λ w x y. Bits w (bit_and x y))
scalar_value BvOr = on_words (λ w x y. Bits w (bit_or x y))
scalar_value BvXor = on_words (λ w x y. Bits w (bit_xor x y))
scalar_value Shl = on_words (λ w x y. Bits w (shift_left w x y))
scalar_value Lshr = on_words (λ w x y. Bits w (shift_right w x y))
scalar_value Ashr = on_words (λ w x y. Bits w (shift_signed w x y))
scalar_value Ult = on_words (λ w x y. Flag (nat_lt x y))
scalar_value Ule = on_words (λ w x y. Flag (nat_le x y))
scalar_value Slt = on_words (λ w x y. Flag (nat_lt (signed_rank w x) (signed_rank w y)))
scalar_value Sle = on_words (λ w x y. Flag (nat_le (signed_rank w x) (signed_rank w y)))
scalar_value Concat = concatenation
scalar_value (Extract hi lo) = on_word (λ w x. Bits (hi - lo + 1) (bits_between hi lo x))
scalar_value (Zext n) = on_word (λ w x. Bits n x)
scalar_value (Sext n) = on_word (λ w x. Bits n (extend_signed w n x))
scalar_value Get = λ _. Flag false
scalar_value Put = λ _. Flag false

-- A map and a key, which give the word at that key.
abbrev pub got : List Value → Value
got (m ∷ k ∷ []) = One (Bits (map_of m).word_width (read (map_of m).entries (word_of (scalar_of k))))
got _ = One (Flag false)

-- A map, a key and a word, which give the map with that word at that key.
abbrev pub updated : List Value → Value
updated (m ∷ k ∷ v ∷ []) = Map (put_into (map_of m) (word_of (scalar_of k)) (word_of (scalar_of v)))
updated _ = One (Flag false)

-- The value of an operator.
abbrev pub op_value : Op → List Value → Value
op_value Get = got
op_value Put = updated
op_value op = λ vs. One (scalar_value op (map scalar_of vs))
