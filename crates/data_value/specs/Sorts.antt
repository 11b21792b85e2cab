-- Sorts of data, and the sort of each operator's value.
use Rattle.std.specs.Prelude.{ℕ, ◌+◌, ◌-◌, ◌≤◌, Bool, true, false, ◌&&◌, ◌==◌, nat_lt, nat_le, if◌then◌else◌, List, [], ◌∷◌, Option, Some, None}
use Rattle.data_value.specs.declared.DataSort.{DataSort}
use Rattle.data_value.specs.declared.DataSort.TheVariants.{Bool as BoolSort, Bits as BitsSort, Map as MapSort}
use Rattle.data_value.specs.declared.Op.{Op}
use Rattle.data_value.specs.declared.Op.TheVariants.{Not, And, Or, Ite, Eq, BvNot, Neg, Add, Sub, Mul, Udiv, Urem, BvAnd, BvOr, BvXor, Shl, Lshr, Ashr, Ult, Ule, Slt, Sle, Concat, Extract, Zext, Sext, Get, Put}

-- A width is from 1 to 64.
abbrev pub IsWidth : ℕ → Type 0
IsWidth w = (1 ≤ w) × (w ≤ 64)

-- Whether a number is a width.
abbrev pub is_width : ℕ → Bool
is_width w = nat_le 1 w && nat_le w 64

-- The widths of a sort are widths.
abbrev pub IsSort : DataSort → Type 0
IsSort BoolSort = Unit {0}
IsSort (BitsSort w) = IsWidth w
IsSort (MapSort k v) = IsWidth k × IsWidth v

-- Whether the widths of a sort are widths.
abbrev pub is_sort : DataSort → Bool
is_sort BoolSort = true
is_sort (BitsSort w) = is_width w
is_sort (MapSort k v) = is_width k && is_width v

-- Whether two sorts are equal.
abbrev pub same_sort : DataSort → DataSort → Bool
same_sort BoolSort BoolSort = true
same_sort (BitsSort v) (BitsSort w) = v == w
same_sort (MapSort j v) (MapSort k w) = (j == k) && (v == w)
same_sort _ _ = false

-- whether there is a sort, and it is this one
abbrev pub is_sort_of : Option DataSort → DataSort → Bool
is_sort_of None s = false
is_sort_of (Some r) s = same_sort r s

-- Whether a sort is that of a truth value or of a word.
abbrev pub is_scalar_sort : DataSort → Bool
is_scalar_sort (MapSort k v) = false
is_scalar_sort _ = true

-- One truth value, which gives a truth value.
abbrev pub flag_sort : List DataSort → Option DataSort
flag_sort (BoolSort ∷ []) = Some BoolSort
flag_sort _ = None

-- Two truth values, which give a truth value.
abbrev pub flags_sort : List DataSort → Option DataSort
flags_sort (BoolSort ∷ BoolSort ∷ []) = Some BoolSort
flags_sort _ = None

-- A truth value and two scalars of one sort, which give a scalar of that sort.
abbrev pub choice_sort : List DataSort → Option DataSort
choice_sort (BoolSort ∷ a ∷ b ∷ []) = if is_scalar_sort a && same_sort a b then Some a else None
choice_sort _ = None

-- Two scalars of one sort, which give a truth value.
abbrev pub equality_sort : List DataSort → Option DataSort
equality_sort (a ∷ b ∷ []) = if is_scalar_sort a && same_sort a b then Some BoolSort else None
equality_sort _ = None

-- One word of width w, which gives f w.
abbrev pub word_sort : (ℕ → Option DataSort) → List DataSort → Option DataSort
word_sort f (BitsSort w ∷ []) = f w
word_sort f _ = None

-- Two words, of widths v and w, which give f v w.
abbrev pub two_words_sort : (ℕ → ℕ → Option DataSort) → List DataSort → Option DataSort
two_words_sort f (BitsSort v ∷ BitsSort w ∷ []) = f v w
two_words_sort f _ = None

-- Two words of one width w, which give f w.
abbrev pub same_words_sort : (ℕ → DataSort) → List DataSort → Option DataSort
same_words_sort f = two_words_sort (λ v w. if v == w then Some (f v) else None)

-- A map and a key of its key width, which give a word of its word width.
abbrev pub get_sort : List DataSort → Option DataSort
get_sort (MapSort k v ∷ BitsSort w ∷ []) = if k == w then Some (BitsSort v) else None
get_sort _ = None

-- A map, a key of its key width and a word of its word width, which give a map of the same sort.
abbrev pub put_sort : List DataSort → Option DataSort
put_sort (MapSort k v ∷ BitsSort w ∷ BitsSort u ∷ []) = if (k == w) && (v == u) then Some (MapSort k v) else None
put_sort _ = None

-- The sort of an operator's value where its arguments have these sorts, none where it takes no such arguments.
abbrev pub op_sort : Op → List DataSort → Option DataSort
op_sort Not = flag_sort
op_sort And = flags_sort
op_sort Or = flags_sort
op_sort Ite = choice_sort
op_sort Eq = equality_sort
op_sort BvNot = word_sort (λ w. Some (BitsSort w))
op_sort Neg = word_sort (λ w. Some (BitsSort w))
op_sort Add = same_words_sort BitsSort
op_sort Sub = same_words_sort BitsSort
op_sort Mul = same_words_sort BitsSort
op_sort Udiv = same_words_sort BitsSort
op_sort Urem = same_words_sort BitsSort
op_sort BvAnd = same_words_sort BitsSort
op_sort BvOr = same_words_sort BitsSort
op_sort BvXor = same_words_sort BitsSort
op_sort Shl = same_words_sort BitsSort
op_sort Lshr = same_words_sort BitsSort
op_sort Ashr = same_words_sort BitsSort
op_sort Ult = same_words_sort (λ _. BoolSort)
op_sort Ule = same_words_sort (λ _. BoolSort)
op_sort Slt = same_words_sort (λ _. BoolSort)
op_sort Sle = same_words_sort (λ _. BoolSort)
op_sort Concat = two_words_sort (λ v w. if nat_le (v + w) 64 then Some (BitsSort (v + w)) else None)
op_sort (Extract hi lo) = word_sort (λ w. if nat_le lo hi && nat_lt hi w then Some (BitsSort (hi - lo + 1)) else None)
op_sort (Zext n) = word_sort (λ w. if nat_le w n && nat_le n 64 then Some (BitsSort n) else None)
op_sort (Sext n) = word_sort (λ w. if nat_le w n && nat_le n 64 then Some (BitsSort n) else None)
op_sort Get = get_sort
op_sort Put = put_sort
