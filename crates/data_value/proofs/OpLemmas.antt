-- The value of an operator is a value of the sort that the operator gives.
use Rattle.std.proofs.Common.{◌≡◌, ◌<◌, ◌≤◌, ◌^◌, ◌+◌, ◌-◌, ◌*◌, ◌/◌, ℕ, Bool, true, false, ◌==◌, ◌&&◌, ◌||◌, nat_lt, nat_le, bit_and, bit_or, bit_xor, if◌then◌else◌, List, [], ◌∷◌, Some, None, All, map, arith, ap, refl, sym, ◌∙◌}
use Rattle.std.proofs.lemmas.Bool.{eqb-true, ltb-true, leb-true, and_parts}
use Rattle.std.proofs.lemmas.List.Elements.{All-head, All-tail, All-map}
use Rattle.std.proofs.lemmas.Nat.{pow_pos, or_lt, xor_lt, and_le_l}
use Rattle.data_value.specs.declared.DataSort.{DataSort}
use Rattle.data_value.specs.declared.DataSort.TheVariants.{Bool as BoolSort, Bits as BitsSort, Map as MapSort}
use Rattle.data_value.specs.declared.Scalar.{Scalar}
use Rattle.data_value.specs.declared.Scalar.TheVariants.{Flag, Bits}
use Rattle.data_value.specs.declared.Value.{Value}
use Rattle.data_value.specs.declared.Value.TheVariants.{One, Map}
use Rattle.data_value.specs.declared.Op.{Op}
use Rattle.data_value.specs.declared.Op.TheVariants.{Not, And, Or, Ite, Eq, BvNot, Neg, Add, Sub, Mul, Udiv, Urem, BvAnd, BvOr, BvXor, Shl, Lshr, Ashr, Ult, Ule, Slt, Sle, Concat, Extract, Zext, Sext, Get, Put}
use Rattle.data_value.specs.Sorts.{IsWidth, op_sort, flags_sort, word_sort, same_words_sort, same_sort, is_scalar_sort}
use Rattle.data_value.specs.Words.{wrap, quotient, remainder, signed_rank, shift_left, shift_right, shift_signed, extend_signed}
use Rattle.data_value.specs.Maps.{IsMapping}
use Rattle.data_value.specs.Values.{scalar_sort, value_sort, scalar_of, IsScalar, IsValue, IsValueOf}
use Rattle.data_value.specs.Ops.{scalar_value, op_value, on_flags, on_word, on_words}
use Rattle.data_value.proofs.MapLemmas.{read_is_word, put_is_mapping}
use Rattle.data_value.proofs.TestLemmas.{sorts_agree}
use Rattle.data_value.proofs.WordLemmas.{two_to_le, wrap_below, quotient_below, remainder_below, shift_left_below, shift_right_word, shift_signed_below, extend_signed_below, concat_below}

-- what a tested option is
chosen : (b : Bool) (x s : DataSort) → (if b then Some x else None) ≡ Some s → (b ≡ true) × (x ≡ s)
chosen true x s e = (refl, cc)
chosen false x s e = cc

-- operators on two truth values
flags : (f : Bool → Bool → Bool) (args : List Value) (s : DataSort) → flags_sort (map value_sort args) ≡ Some s → IsValueOf s (One (on_flags f (map scalar_of args)))
flags f (One (Flag a) ∷ One (Flag b) ∷ []) s e = record { value = tt; sort = cc }
flags f _ s e = cc

-- operators on two words of one width w that give a word of that width
words : (f : ℕ → ℕ → ℕ → ℕ) → ((w x y : ℕ) → IsWidth w → x < 2 ^ w → y < 2 ^ w → f w x y < 2 ^ w) → (args : List Value) (s : DataSort) → All IsValue args → same_words_sort BitsSort (map value_sort args) ≡ Some s → IsValueOf s (One (on_words (λ w x y. Bits w (f w x y)) (map scalar_of args)))
words f below (One (Bits v x) ∷ One (Bits w y) ∷ []) s a e =
    let c = chosen (v == w) (BitsSort v) s e in
    let same = eqb-true v w c.0 in
    let first : IsScalar (Bits v x) = All-head IsValue (One (Bits v x)) (One (Bits w y) ∷ []) a in
    let second : IsScalar (Bits w y) = All-head IsValue (One (Bits w y)) [] (All-tail IsValue (One (Bits v x)) (One (Bits w y) ∷ []) a) in
    record { value = (first.0, below v x y first.0 first.1 (rw same second.1)); sort = c.1 }
words f below _ s a e = cc

-- operators on two words of one width that give a truth value
orders : (f : ℕ → ℕ → ℕ → Bool) → (args : List Value) (s : DataSort) → same_words_sort (λ _. BoolSort) (map value_sort args) ≡ Some s → IsValueOf s (One (on_words (λ w x y. Flag (f w x y)) (map scalar_of args)))
orders f (One (Bits v x) ∷ One (Bits w y) ∷ []) s e = record { value = tt; sort = (chosen (v == w) BoolSort s e).1 }
orders f _ s e = cc

-- operators on one word that give a word of the same width
same_width : (f : ℕ → ℕ → ℕ) → ((w x : ℕ) → IsWidth w → x < 2 ^ w → f w x < 2 ^ w) → (args : List Value) (s : DataSort) → All IsValue args → word_sort (λ w. Some (BitsSort w)) (map value_sort args) ≡ Some s → IsValueOf s (One (on_word (λ w x. Bits w (f w x)) (map scalar_of args)))
same_width f below (One (Bits w x) ∷ []) s a e =
    let word : IsScalar (Bits w x) = All-head IsValue (One (Bits w x)) [] a in
    record { value = (word.0, below w x word.0 word.1); sort = cc }
same_width f below _ s a e = cc

-- operators on one word that give a longer word
longer : (n : ℕ) (f : ℕ → ℕ → ℕ) → ((w x : ℕ) → w ≤ n → x < 2 ^ w → f w x < 2 ^ n) → (args : List Value) (s : DataSort) → All IsValue args → word_sort (λ w. if nat_le w n && nat_le n 64 then Some (BitsSort n) else None) (map value_sort args) ≡ Some s → IsValueOf s (One (on_word (λ w x. Bits n (f w x)) (map scalar_of args)))
longer n f below (One (Bits w x) ∷ []) s a e =
    let c = chosen (nat_le w n && nat_le n 64) (BitsSort n) s e in
    let p = and_parts (nat_le w n) (nat_le n 64) c.0 in
    let wide = leb-true w n p.0 in
    let short = leb-true n 64 p.1 in
    let word : IsScalar (Bits w x) = All-head IsValue (One (Bits w x)) [] a in
    record { value = ((omega (arith, word.0), short), below w x wide word.1); sort = c.1 }
longer n f below _ s a e = cc

extracts : (hi lo : ℕ) → (args : List Value) (s : DataSort) → All IsValue args → op_sort (Extract hi lo) (map value_sort args) ≡ Some s → IsValueOf s (op_value (Extract hi lo) args)
extracts hi lo (One (Bits w x) ∷ []) s a e =
    let c = chosen (nat_le lo hi && nat_lt hi w) (BitsSort (hi - lo + 1)) s e in
    let p = and_parts (nat_le lo hi) (nat_lt hi w) c.0 in
    let order = leb-true lo hi p.0 in
    let within = ltb-true hi w p.1 in
    let word : IsScalar (Bits w x) = All-head IsValue (One (Bits w x)) [] a in
    record { value = ((omega arith, omega (arith, word.0)), wrap_below (hi - lo + 1) (x / 2 ^ lo)); sort = c.1 }
extracts hi lo _ s a e = cc

concats : (args : List Value) (s : DataSort) → All IsValue args → op_sort Concat (map value_sort args) ≡ Some s → IsValueOf s (op_value Concat args)
concats (One (Bits v x) ∷ One (Bits w y) ∷ []) s a e =
    let c = chosen (nat_le (v + w) 64) (BitsSort (v + w)) s e in
    let short = leb-true (v + w) 64 c.0 in
    let first : IsScalar (Bits v x) = All-head IsValue (One (Bits v x)) (One (Bits w y) ∷ []) a in
    let second : IsScalar (Bits w y) = All-head IsValue (One (Bits w y)) [] (All-tail IsValue (One (Bits v x)) (One (Bits w y) ∷ []) a) in
    record { value = ((omega (arith, first.0), short), concat_below v x w y first.1 second.1); sort = c.1 }
concats _ s a e = cc

negations : (args : List Value) (s : DataSort) → op_sort Not (map value_sort args) ≡ Some s → IsValueOf s (op_value Not args)
negations (One (Flag a) ∷ []) s e = record { value = tt; sort = cc }
negations _ s e = cc

equalities : (args : List Value) (s : DataSort) → op_sort Eq (map value_sort args) ≡ Some s → IsValueOf s (op_value Eq args)
equalities (a ∷ b ∷ []) s e = record { value = tt; sort = (chosen (is_scalar_sort (value_sort a) && same_sort (value_sort a) (value_sort b)) BoolSort s e).1 }
equalities _ s e = cc

-- a value of a scalar sort is a scalar
pub scalar_values : (v : Value) → is_scalar_sort (value_sort v) ≡ true → One (scalar_of v) ≡ v
scalar_values (One x) e = refl
scalar_values (Map m) e = cc

choices : (args : List Value) (s : DataSort) → All IsValue args → op_sort Ite (map value_sort args) ≡ Some s → IsValueOf s (op_value Ite args)
choices (One (Flag c) ∷ a ∷ b ∷ []) s l e =
    let t = chosen (is_scalar_sort (value_sort a) && same_sort (value_sort a) (value_sort b)) (value_sort a) s e in
    let p = and_parts (is_scalar_sort (value_sort a)) (same_sort (value_sort a) (value_sort b)) t.0 in
    let same = sorts_agree (value_sort a) (value_sort b) p.1 in
    let first = scalar_values a p.0 in
    let second = scalar_values b (rw (← same) p.0) in
    let rest = All-tail IsValue (One (Flag c)) (a ∷ b ∷ []) l in
    let value_a = All-head IsValue a (b ∷ []) rest in
    let value_b = All-head IsValue b [] (All-tail IsValue a (b ∷ []) rest) in
    elim c as (λ f. IsValueOf s (One (if f then scalar_of a else scalar_of b))) [
      | true ↦ rw first (record { value = value_a; sort = t.1 })
      | false ↦ rw second (record { value = value_b; sort = sym same ∙ t.1 })
    ]
choices _ s l e = cc

gets : (args : List Value) (s : DataSort) → All IsValue args → op_sort Get (map value_sort args) ≡ Some s → IsValueOf s (op_value Get args)
gets (Map m ∷ One (Bits w k) ∷ []) s a e =
    let c = chosen (m.key_width == w) (BitsSort m.word_width) s e in
    let mapping : IsMapping m = All-head IsValue (Map m) (One (Bits w k) ∷ []) a in
    record { value = (mapping.word_width, read_is_word m k mapping); sort = c.1 }
gets (One (Flag b) ∷ vs) s a e = cc
gets (One (Bits w x) ∷ vs) s a e = cc
gets _ s a e = cc

puts : (args : List Value) (s : DataSort) → All IsValue args → op_sort Put (map value_sort args) ≡ Some s → IsValueOf s (op_value Put args)
puts (Map m ∷ One (Bits w k) ∷ One (Bits u v) ∷ []) s a e =
    let c = chosen ((m.key_width == w) && (m.word_width == u)) (MapSort m.key_width m.word_width) s e in
    let p = and_parts (m.key_width == w) (m.word_width == u) c.0 in
    let keys = eqb-true m.key_width w p.0 in
    let words = eqb-true m.word_width u p.1 in
    let mapping : IsMapping m = All-head IsValue (Map m) (One (Bits w k) ∷ One (Bits u v) ∷ []) a in
    let rest = All-tail IsValue (Map m) (One (Bits w k) ∷ One (Bits u v) ∷ []) a in
    let key : IsScalar (Bits w k) = All-head IsValue (One (Bits w k)) (One (Bits u v) ∷ []) rest in
    let word : IsScalar (Bits u v) = All-head IsValue (One (Bits u v)) [] (All-tail IsValue (One (Bits w k)) (One (Bits u v) ∷ []) rest) in
    record { value = put_is_mapping m k v mapping (rw keys key.1) (rw words word.1); sort = c.1 }
puts (One (Flag b) ∷ vs) s a e = cc
puts (One (Bits w x) ∷ vs) s a e = cc
puts _ s a e = cc

pub operator_keeps_sort : (op : Op) (args : List Value) (s : DataSort) → All IsValue args → op_sort op (map value_sort args) ≡ Some s → IsValueOf s (op_value op args)
operator_keeps_sort Not args s a e = negations args s e
operator_keeps_sort And args s a e = flags (λ p q. p && q) args s e
operator_keeps_sort Or args s a e = flags (λ p q. p || q) args s e
operator_keeps_sort Ite args s a e = choices args s a e
operator_keeps_sort Eq args s a e = equalities args s e
operator_keeps_sort BvNot args s a e = same_width (λ w x. 2 ^ w - 1 - x) (λ w x i l. omega (arith, pow_pos w)) args s a e
operator_keeps_sort Neg args s a e = same_width (λ w x. wrap w (2 ^ w - x)) (λ w x i l. wrap_below w _) args s a e
operator_keeps_sort Add args s a e = words (λ w x y. wrap w (x + y)) (λ w x y i l m. wrap_below w _) args s a e
operator_keeps_sort Sub args s a e = words (λ w x y. wrap w (x + 2 ^ w - y)) (λ w x y i l m. wrap_below w _) args s a e
operator_keeps_sort Mul args s a e = words (λ w x y. wrap w (x * y)) (λ w x y i l m. wrap_below w _) args s a e
operator_keeps_sort Udiv args s a e = words quotient (λ w x y i l m. quotient_below w x y l) args s a e
operator_keeps_sort Urem args s a e = words (λ w x y. remainder x y) (λ w x y i l m. remainder_below w x y l m) args s a e
operator_keeps_sort BvAnd args s a e = words (λ w x y. bit_and x y) (λ w x y i l m. omega (arith, and_le_l x y)) args s a e
operator_keeps_sort BvOr args s a e = words (λ w x y. bit_or x y) (λ w x y i l m. or_lt w x y l m) args s a e
operator_keeps_sort BvXor args s a e = words (λ w x y. bit_xor x y) (λ w x y i l m. xor_lt w x y l m) args s a e
operator_keeps_sort Shl args s a e = words shift_left (λ w x y i l m. shift_left_below w x y) args s a e
operator_keeps_sort Lshr args s a e = words shift_right (λ w x y i l m. shift_right_word w x y l) args s a e
operator_keeps_sort Ashr args s a e = words shift_signed (λ w x y i l m. shift_signed_below w x y l) args s a e
operator_keeps_sort Ult args s a e = orders (λ w x y. nat_lt x y) args s e
operator_keeps_sort Ule args s a e = orders (λ w x y. nat_le x y) args s e
operator_keeps_sort Slt args s a e = orders (λ w x y. nat_lt (signed_rank w x) (signed_rank w y)) args s e
operator_keeps_sort Sle args s a e = orders (λ w x y. nat_le (signed_rank w x) (signed_rank w y)) args s e
operator_keeps_sort Concat args s a e = concats args s a e
operator_keeps_sort (Extract hi lo) args s a e = extracts hi lo args s a e
operator_keeps_sort (Zext n) args s a e = longer n (λ w x. x) (λ w x l h. omega (arith, two_to_le w n l)) args s a e
operator_keeps_sort (Sext n) args s a e = longer n (λ w x. extend_signed w n x) (λ w x l h. extend_signed_below w n x l h) args s a e
operator_keeps_sort Get args s a e = gets args s a e
operator_keeps_sort Put args s a e = puts args s a e

scalars_as_values : (ss : List Scalar) → map scalar_of (map One ss) ≡ ss
scalars_as_values [] = refl
scalars_as_values (s ∷ ss) = ap (λ (l : List Scalar). s ∷ l) (scalars_as_values ss)

sorts_as_values : (ss : List Scalar) → map value_sort (map One ss) ≡ map scalar_sort ss
sorts_as_values [] = refl
sorts_as_values (s ∷ ss) = ap (λ (l : List DataSort). scalar_sort s ∷ l) (sorts_as_values ss)

no_map_op : (ss : List Scalar) (s : DataSort) → (op_sort Get (map scalar_sort ss) ≡ Some s → ⊥) × (op_sort Put (map scalar_sort ss) ≡ Some s → ⊥)
no_map_op [] s = (λ e. cc, λ e. cc)
no_map_op (Flag b ∷ ss) s = (λ e. cc, λ e. cc)
no_map_op (Bits w x ∷ ss) s = (λ e. cc, λ e. cc)

-- at scalars the value of an operator is the scalar operator's
pub scalar_op_value : (op : Op) (ss : List Scalar) (s : DataSort) → op_sort op (map scalar_sort ss) ≡ Some s → op_value op (map One ss) ≡ One (scalar_value op ss)
scalar_op_value Get ss s e = absurd ((no_map_op ss s).0 e)
scalar_op_value Put ss s e = absurd ((no_map_op ss s).1 e)
scalar_op_value op ss s e = ap (λ (l : List Scalar). One (scalar_value op l)) (scalars_as_values ss)

pub scalar_keeps_sort : (op : Op) (ss : List Scalar) (s : DataSort) → All IsScalar ss → op_sort op (map scalar_sort ss) ≡ Some s → IsValueOf s (One (scalar_value op ss))
scalar_keeps_sort op ss s a e =
    rw (← scalar_op_value op ss s e)
    (operator_keeps_sort op (map One ss) s (All-map IsValue One ss a) (ap (op_sort op) (sorts_as_values ss) ∙ e))
