-- What an operator at nodes comes to.
use Rattle.std.specs.Prelude.{◌≡◌, ◌+◌, ◌<◌, ◌≤◌, ◌^◌, ℕ, Bool, not, IsTrue, IsSome, List, [], ◌∷◌, Some}
use Rattle.data_value.specs.declared.DataSort.{DataSort}
use Rattle.data_value.specs.declared.DataSort.TheVariants.{Bool as BoolSort, Bits as BitsSort}
use Rattle.data_value.specs.declared.Scalar.{Scalar}
use Rattle.data_value.specs.declared.Scalar.TheVariants.{Flag, Bits}
use Rattle.data_value.specs.declared.Value.{Value}
use Rattle.data_value.specs.declared.Value.TheVariants.{One}
use Rattle.data_value.specs.declared.Op.{Op}
use Rattle.data_value.specs.Sorts.{op_sort}
use Rattle.data_value.specs.Values.{IsScalar, IsValueOf, scalar_sort, scalar_of, word_of}
use Rattle.data_value.specs.Ops.{op_value}
use Rattle.data_value.specs.Nodes.{Seen, IsValuation, AllValid, sorts_of, meanings_of, sizes_of}
use Rattle.simplify.specs.Simpler.{IsSimplerThan}
use Rattle.simplify.specs.declared.rewritten.Rewritten.{Rewritten}
use Rattle.simplify.specs.declared.rewritten.Rewritten.TheVariants as rewritten

-- An operator has one sort and one meaning at nodes, and another operator at others, which are no larger together.
pub record AreNoHarder {N : Type 0} (variables : List DataSort) (look : N → Seen N) (op : Op) (args : List N) (other : Op) (others : List N) : Type 0 where
  pub valid : AllValid look others
  pub sort : op_sort other (sorts_of look others) ≡ op_sort op (sorts_of look args)
  pub means : (v : List Value) → IsValuation variables v → op_value other (meanings_of look v others) ≡ op_value op (meanings_of look v args)
  pub small : sizes_of look others ≤ sizes_of look args

-- An operator at nodes means one scalar.
pub record IsScalarFor {N : Type 0} (variables : List DataSort) (look : N → Seen N) (op : Op) (args : List N) (c : Scalar) : Type 0 where
  pub means : (v : List Value) → IsValuation variables v → op_value op (meanings_of look v args) ≡ One c

-- An operator has one sort and one meaning at nodes, and another operator at a node and a scalar, which are no larger together.
pub record IsNoHarderWith {N : Type 0} (variables : List DataSort) (look : N → Seen N) (op : Op) (args : List N) (other : Op) (n : N) (c : Scalar) : Type 0 where
  pub valid : IsTrue (look n).valid
  pub scalar : IsScalar c
  pub sort : op_sort other ((look n).sort ∷ scalar_sort c ∷ []) ≡ op_sort op (sorts_of look args)
  pub means : (v : List Value) → IsValuation variables v → op_value other ((look n).meaning v ∷ One c ∷ []) ≡ op_value op (meanings_of look v args)
  pub small : (look n).size + 1 ≤ sizes_of look args

-- What an operator at nodes may come to.
abbrev pub IsRewritten : {N : Type 0} → List DataSort → (N → Seen N) → Op → List N → Rewritten N → Type 0
IsRewritten variables look op args (rewritten.Node n) = IsSimplerThan variables look op args (look n)
IsRewritten variables look op args (rewritten.Known c) = IsScalarFor variables look op args c
IsRewritten variables look op args (rewritten.Apply other others) = AreNoHarder variables look op args other others
IsRewritten variables look op args (rewritten.With other n c) = IsNoHarderWith variables look op args other n c

-- The word y of width w is neutral to an operator on its right: it changes no word of that width.
pub record IsNeutral (op : Op) (w y : ℕ) : Type 0 where
  pub sort : op_sort op (BitsSort w ∷ BitsSort w ∷ []) ≡ Some (BitsSort w)
  pub means : (x : ℕ) → x < 2 ^ w → op_value op (One (Bits w x) ∷ One (Bits w y) ∷ []) ≡ One (Bits w x)

-- An operator gives two words of one width the same in either order.
abbrev pub IsCommutative : Op → Type 0
IsCommutative op = (w x y : ℕ) → op_value op (One (Bits w x) ∷ One (Bits w y) ∷ []) ≡ op_value op (One (Bits w y) ∷ One (Bits w x) ∷ [])

-- An operator gives each value that it takes twice.
abbrev pub IsIdempotent : Op → Type 0
IsIdempotent op = (s : DataSort) → IsSome (op_sort op (s ∷ s ∷ [])) → (op_sort op (s ∷ s ∷ []) ≡ Some s) × ((m : Value) → IsValueOf s m → op_value op (m ∷ m ∷ []) ≡ m)

-- An operator gives this scalar where it takes a value of a sort twice.
abbrev pub IsScalarAtSame : Op → DataSort → Scalar → Type 0
IsScalarAtSame op s c = (m : Value) → IsValueOf s m → op_value op (m ∷ m ∷ []) ≡ One c

-- The word that a node means where the variables have these values.
abbrev pub word_at : {N : Type 0} → Seen N → List Value → ℕ
word_at s v = word_of (scalar_of (s.meaning v))

-- With the word y of width w on its right, an operator gives this scalar at all words of that width.
abbrev pub IsAbsorbing : Op → ℕ → ℕ → Scalar → Type 0
IsAbsorbing op w y c = (x : ℕ) → x < 2 ^ w → op_value op (One (Bits w x) ∷ One (Bits w y) ∷ []) ≡ One c

-- With the word y of width w on its left, an operator gives this scalar at all words of that width.
abbrev pub IsAbsorbingFirst : Op → ℕ → ℕ → Scalar → Type 0
IsAbsorbingFirst op w y c = (x : ℕ) → x < 2 ^ w → op_value op (One (Bits w y) ∷ One (Bits w x) ∷ []) ≡ One c

-- A comparison gives two words the truth value that another one doesn't give them exchanged.
abbrev pub IsOpposite : Op → Op → Type 0
IsOpposite op other = (w x y : ℕ) (p : Bool) → op_value other (One (Bits w y) ∷ One (Bits w x) ∷ []) ≡ One (Flag p) → op_value op (One (Bits w x) ∷ One (Bits w y) ∷ []) ≡ One (Flag (not p))

-- With the word y of width w on its right, an operator gives words of that width what another gives them with z.
pub record IsReplacing (op : Op) (w y : ℕ) (other : Op) (z : ℕ) : Type 0 where
  pub fits : z < 2 ^ w
  pub sort : op_sort other (BitsSort w ∷ BitsSort w ∷ []) ≡ op_sort op (BitsSort w ∷ BitsSort w ∷ [])
  pub means : (x : ℕ) → x < 2 ^ w → op_value other (One (Bits w x) ∷ One (Bits w z) ∷ []) ≡ op_value op (One (Bits w x) ∷ One (Bits w y) ∷ [])

-- A truth value on either side of an operator changes no truth value.
pub record IsKeeping (op : Op) (q : Bool) : Type 0 where
  pub sort : op_sort op (BoolSort ∷ BoolSort ∷ []) ≡ Some BoolSort
  pub right : (p : Bool) → op_value op (One (Flag p) ∷ One (Flag q) ∷ []) ≡ One (Flag p)
  pub left : (p : Bool) → op_value op (One (Flag q) ∷ One (Flag p) ∷ []) ≡ One (Flag p)

-- With a truth value on either side, an operator gives this truth value.
pub record IsSettling (op : Op) (q : Bool) : Type 0 where
  pub right : (p : Bool) → op_value op (One (Flag p) ∷ One (Flag q) ∷ []) ≡ One (Flag q)
  pub left : (p : Bool) → op_value op (One (Flag q) ∷ One (Flag p) ∷ []) ≡ One (Flag q)

-- One operator takes back what another one does to a value.
abbrev pub TakesBack : Op → Op → Type 0
TakesBack op inner = (s t : DataSort) → op_sort inner (s ∷ []) ≡ Some t → (op_sort op (t ∷ []) ≡ Some s) × ((m : Value) → IsValueOf s m → op_value op (op_value inner (m ∷ []) ∷ []) ≡ m)

-- What an operator may come to at a word, which looks as a, and the word y of width w.
abbrev pub IsWordRewritten : {N : Type 0} → (N → Seen N) → Seen N → Op → ℕ → ℕ → Rewritten N → Type 0
IsWordRewritten look a op w y (rewritten.Node n) = IsNeutral op w y × (look n ≡ a)
IsWordRewritten look a op w y (rewritten.Known c) = IsAbsorbing op w y c
IsWordRewritten look a op w y (rewritten.Apply other others) = ⊥
IsWordRewritten look a op w y (rewritten.With other n c) = (z : ℕ) × (c ≡ Bits w z) × IsReplacing op w y other z × (look n ≡ a)
