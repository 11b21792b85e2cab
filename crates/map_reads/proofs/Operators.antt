-- What operators take and give.
use Rattle.std.proofs.Common.{◌≡◌, ℕ, ◌==◌, ◌&&◌, Bool, true, false, if◌then◌else◌, Some, None, List, [], ◌∷◌, length, map, refl, sym, ap, ap₂, ◌∙◌}
use Rattle.std.proofs.lemmas.Bool.{and_parts, eqb-true, eq-eqb}
use Rattle.std.proofs.lemmas.Option.{same_Some}
use Rattle.data_value.specs.declared.DataSort.{DataSort}
use Rattle.data_value.specs.declared.DataSort.TheVariants.{Bool as BoolSort, Bits as BitsSort, Map as MapSort}
use Rattle.data_value.specs.declared.Scalar.TheVariants.{Bits}
use Rattle.data_value.specs.declared.Value.{Value}
use Rattle.data_value.specs.declared.Value.TheVariants.{One}
use Rattle.data_value.specs.declared.Op.{Op}
use Rattle.data_value.specs.declared.Op.TheVariants.{Not, And, Or, Ite, Eq, BvNot, Neg, Add, Sub, Mul, Udiv, Urem, BvAnd, BvOr, BvXor, Shl, Lshr, Ashr, Ult, Ule, Slt, Sle, Concat, Extract, Zext, Sext, Get, Put}
use Rattle.data_value.specs.Sorts.{is_scalar_sort, same_sort, flag_sort, flags_sort, choice_sort, equality_sort, word_sort, two_words_sort, get_sort, put_sort, op_sort}
use Rattle.data_value.specs.Values.{scalar_of, map_of, word_of, value_sort, same_scalar}
use Rattle.data_value.specs.Maps.{read}
use Rattle.data_value.specs.Ops.{scalar_value, op_value}
use Rattle.data_value.proofs.MapLemmas.{read-write}
use Rattle.data_value.proofs.TestLemmas.{sorts_agree}
use Rattle.map_reads.proofs.Leaves.{word_scalar, map_width}

-- sorts of truth values and words
abbrev pub AreScalar : List DataSort → Type 0
AreScalar [] = Unit {0}
AreScalar (s ∷ ss) = (is_scalar_sort s ≡ true) × AreScalar ss

-- what there is under a test
tested : {X : Type 0} (b : Bool) (x s : X) → (if b then Some x else None) ≡ Some s → (b ≡ true) × (x ≡ s)
tested true x s e = (refl, same_Some x s e)
tested false x s e = cc

-- a sort is that of a scalar
is_one : (a s : DataSort) → is_scalar_sort a ≡ true → a ≡ s → is_scalar_sort s ≡ true
is_one a s h e = ap is_scalar_sort (sym e) ∙ h

flag_scalars : (ss : List DataSort) (s : DataSort) → flag_sort ss ≡ Some s → AreScalar ss × (is_scalar_sort s ≡ true)
flag_scalars (BoolSort ∷ []) s e = ((refl, tt), is_one BoolSort s refl (same_Some BoolSort s e))
flag_scalars _ s e = absurd (cc)

flags_scalars : (ss : List DataSort) (s : DataSort) → flags_sort ss ≡ Some s → AreScalar ss × (is_scalar_sort s ≡ true)
flags_scalars (BoolSort ∷ BoolSort ∷ []) s e = ((refl, (refl, tt)), is_one BoolSort s refl (same_Some BoolSort s e))
flags_scalars _ s e = absurd (cc)

choice_scalars : (ss : List DataSort) (s : DataSort) → choice_sort ss ≡ Some s → AreScalar ss × (is_scalar_sort s ≡ true)
choice_scalars (BoolSort ∷ a ∷ b ∷ []) s e =
    let t = tested (is_scalar_sort a && same_sort a b) a s e in
    let p = and_parts (is_scalar_sort a) (same_sort a b) t.0 in
    ((refl, (p.0, (is_one a b p.0 (sorts_agree a b p.1), tt))), is_one a s p.0 t.1)
choice_scalars _ s e = absurd (cc)

equality_scalars : (ss : List DataSort) (s : DataSort) → equality_sort ss ≡ Some s → AreScalar ss × (is_scalar_sort s ≡ true)
equality_scalars (a ∷ b ∷ []) s e =
    let t = tested (is_scalar_sort a && same_sort a b) BoolSort s e in
    let p = and_parts (is_scalar_sort a) (same_sort a b) t.0 in
    ((p.0, (is_one a b p.0 (sorts_agree a b p.1), tt)), is_one BoolSort s refl t.1)
equality_scalars _ s e = absurd (cc)

word_scalars : (f : ℕ → DataSort) (test : ℕ → Bool) → ((w : ℕ) → is_scalar_sort (f w) ≡ true) → (ss : List DataSort) (s : DataSort) → word_sort (λ w. if test w then Some (f w) else None) ss ≡ Some s → AreScalar ss × (is_scalar_sort s ≡ true)
word_scalars f test one (BitsSort w ∷ []) s e = ((refl, tt), is_one (f w) s (one w) (tested (test w) (f w) s e).1)
word_scalars f test one _ s e = absurd (cc)

words_scalars : (f : ℕ → ℕ → DataSort) (test : ℕ → ℕ → Bool) → ((v w : ℕ) → is_scalar_sort (f v w) ≡ true) → (ss : List DataSort) (s : DataSort) → two_words_sort (λ v w. if test v w then Some (f v w) else None) ss ≡ Some s → AreScalar ss × (is_scalar_sort s ≡ true)
words_scalars f test one (BitsSort v ∷ BitsSort w ∷ []) s e = ((refl, (refl, tt)), is_one (f v w) s (one v w) (tested (test v w) (f v w) s e).1)
words_scalars f test one _ s e = absurd (cc)

-- how many arguments the two have
pub get_two : (ss : List DataSort) (s : DataSort) → get_sort ss ≡ Some s → length ss ≡ 2
get_two (MapSort k v ∷ BitsSort w ∷ []) s e = refl
get_two _ s e = absurd (cc)

pub put_three : (ss : List DataSort) (s : DataSort) → put_sort ss ≡ Some s → length ss ≡ 3
put_three (MapSort k v ∷ BitsSort w ∷ BitsSort u ∷ []) s e = refl
put_three _ s e = absurd (cc)

-- all operators but the two on maps take scalars alone, and give one
pub op_scalars : (op : Op) (ss : List DataSort) (s : DataSort) → (op ≡ Get → ⊥) → (op ≡ Put → ⊥) → op_sort op ss ≡ Some s → AreScalar ss × (is_scalar_sort s ≡ true)
op_scalars Not ss s g p e = flag_scalars ss s e
op_scalars And ss s g p e = flags_scalars ss s e
op_scalars Or ss s g p e = flags_scalars ss s e
op_scalars Ite ss s g p e = choice_scalars ss s e
op_scalars Eq ss s g p e = equality_scalars ss s e
op_scalars BvNot ss s g p e = word_scalars BitsSort (λ w. true) (λ w. refl) ss s e
op_scalars Neg ss s g p e = word_scalars BitsSort (λ w. true) (λ w. refl) ss s e
op_scalars Add ss s g p e = words_scalars (λ v w. BitsSort v) (λ v w. v == w) (λ v w. refl) ss s e
op_scalars Sub ss s g p e = words_scalars (λ v w. BitsSort v) (λ v w. v == w) (λ v w. refl) ss s e
op_scalars Mul ss s g p e = words_scalars (λ v w. BitsSort v) (λ v w. v == w) (λ v w. refl) ss s e
op_scalars Udiv ss s g p e = words_scalars (λ v w. BitsSort v) (λ v w. v == w) (λ v w. refl) ss s e
op_scalars Urem ss s g p e = words_scalars (λ v w. BitsSort v) (λ v w. v == w) (λ v w. refl) ss s e
op_scalars BvAnd ss s g p e = words_scalars (λ v w. BitsSort v) (λ v w. v == w) (λ v w. refl) ss s e
op_scalars BvOr ss s g p e = words_scalars (λ v w. BitsSort v) (λ v w. v == w) (λ v w. refl) ss s e
op_scalars BvXor ss s g p e = words_scalars (λ v w. BitsSort v) (λ v w. v == w) (λ v w. refl) ss s e
op_scalars Shl ss s g p e = words_scalars (λ v w. BitsSort v) (λ v w. v == w) (λ v w. refl) ss s e
op_scalars Lshr ss s g p e = words_scalars (λ v w. BitsSort v) (λ v w. v == w) (λ v w. refl) ss s e
op_scalars Ashr ss s g p e = words_scalars (λ v w. BitsSort v) (λ v w. v == w) (λ v w. refl) ss s e
op_scalars Ult ss s g p e = words_scalars (λ v w. BoolSort) (λ v w. v == w) (λ v w. refl) ss s e
op_scalars Ule ss s g p e = words_scalars (λ v w. BoolSort) (λ v w. v == w) (λ v w. refl) ss s e
op_scalars Slt ss s g p e = words_scalars (λ v w. BoolSort) (λ v w. v == w) (λ v w. refl) ss s e
op_scalars Sle ss s g p e = words_scalars (λ v w. BoolSort) (λ v w. v == w) (λ v w. refl) ss s e
op_scalars Concat ss s g p e = words_scalars _ _ (λ v w. refl) ss s e
op_scalars (Extract hi lo) ss s g p e = word_scalars _ _ (λ w. refl) ss s e
op_scalars (Zext n) ss s g p e = word_scalars _ _ (λ w. refl) ss s e
op_scalars (Sext n) ss s g p e = word_scalars _ _ (λ w. refl) ss s e
op_scalars Get ss s g p e = absurd (g refl)
op_scalars Put ss s g p e = absurd (p refl)

-- so what they give is made of scalars
pub op_on_scalars : (op : Op) (vs : List Value) → (op ≡ Get → ⊥) → (op ≡ Put → ⊥) → op_value op vs ≡ One (scalar_value op (map scalar_of vs))
op_on_scalars Get vs g p = absurd (g refl)
op_on_scalars Put vs g p = absurd (p refl)
op_on_scalars op vs g p = refl

-- a map is read at its keys
pub get_sorted : (a b s : DataSort) → op_sort Get (a ∷ b ∷ []) ≡ Some s → (k : ℕ) × ((w : ℕ) × ((a ≡ MapSort k w) × ((b ≡ BitsSort k) × (s ≡ BitsSort w))))
get_sorted (MapSort k w) (BitsSort j) s e =
    let t = tested (k == j) (BitsSort w) s e in
    (k, (w, (refl, (ap BitsSort (sym (eqb-true k j t.0)), sym t.1))))
get_sorted BoolSort b s e = absurd (cc)
get_sorted (BitsSort w) b s e = absurd (cc)
get_sorted (MapSort k w) BoolSort s e = absurd (cc)
get_sorted (MapSort k w) (MapSort i j) s e = absurd (cc)

-- its words are put at its keys
pub put_sorted : (a b c s : DataSort) → op_sort Put (a ∷ b ∷ c ∷ []) ≡ Some s → (k : ℕ) × ((w : ℕ) × ((a ≡ MapSort k w) × ((b ≡ BitsSort k) × ((c ≡ BitsSort w) × (s ≡ MapSort k w)))))
put_sorted (MapSort k w) (BitsSort j) (BitsSort u) s e =
    let t = tested ((k == j) && (w == u)) (MapSort k w) s e in
    let p = and_parts (k == j) (w == u) t.0 in
    (k, (w, (refl, (ap BitsSort (sym (eqb-true k j p.0)), (ap BitsSort (sym (eqb-true w u p.1)), sym t.1)))))
put_sorted BoolSort b c s e = absurd (cc)
put_sorted (BitsSort w) b c s e = absurd (cc)
put_sorted (MapSort k w) BoolSort c s e = absurd (cc)
put_sorted (MapSort k w) (MapSort i j) c s e = absurd (cc)
put_sorted (MapSort k w) (BitsSort j) BoolSort s e = absurd (cc)
put_sorted (MapSort k w) (BitsSort j) (MapSort u v) s e = absurd (cc)

-- what a map has at a key after a word was put at one
pub put_read : (m x y z : Value) (k w : ℕ) → value_sort m ≡ MapSort k w → value_sort x ≡ BitsSort k → value_sort y ≡ BitsSort k → value_sort z ≡ BitsSort w →
    (if same_scalar (scalar_of x) (scalar_of y) then scalar_of z else scalar_of (op_value Get (m ∷ y ∷ []))) ≡ scalar_of (op_value Get (op_value Put (m ∷ x ∷ z ∷ []) ∷ y ∷ []))
put_read m x y z k w map_sorted x_sorted y_sorted z_sorted =
    let u = (map_of m).word_width in
    let es = (map_of m).entries in
    let a = word_of (scalar_of x) in
    let b = word_of (scalar_of y) in
    let c = word_of (scalar_of z) in
    let same : same_scalar (scalar_of x) (scalar_of y) ≡ (a == b) = ap₂ same_scalar (word_scalar x k x_sorted) (word_scalar y k y_sorted) ∙ ap (λ t. t && (a == b)) (eq-eqb k k refl) in
    let word : scalar_of z ≡ Bits u c = word_scalar z w z_sorted ∙ ap (λ n. Bits n c) (sym (map_width m k w map_sorted)) in
    ap₂ (λ t s. if t then s else Bits u (read es b)) same word ∙ joined (a == b) u c (read es b) ∙ ap (Bits u) (sym (read-write es a c b))
  where
    joined : (t : Bool) (u c d : ℕ) → (if t then Bits u c else Bits u d) ≡ Bits u (if t then c else d)
    joined true u c d = refl
    joined false u c d = refl
