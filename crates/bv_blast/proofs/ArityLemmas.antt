-- Every operator takes from one to three arguments.
use Rattle.std.proofs.Common.{ℕ, ◌≤◌, List, [], ◌∷◌, Option, IsSome, length, get_or, arith}
use Rattle.std.proofs.lemmas.List.{length-map}
use Rattle.data_value.specs.declared.DataSort.{DataSort}
use Rattle.data_value.specs.declared.DataSort.TheVariants.{Bool as BoolSort, Bits as BitsSort, Map as MapSort}
use Rattle.data_value.specs.declared.Op.{Op}
use Rattle.data_value.specs.declared.Op.TheVariants.{Not, And, Or, Ite, Eq, BvNot, Neg, Extract, Zext, Sext, Get, Put}
use Rattle.data_value.specs.Flat.{at_places}
use Rattle.data_value.specs.Sorts.{op_sort, flag_sort, flags_sort, choice_sort, equality_sort, word_sort, two_words_sort, get_sort, put_sort}

-- as many as one to three
abbrev IsArity : List DataSort → Type 0
IsArity ss = (1 ≤ length ss) × (length ss ≤ 3)

flag_arity : (ss : List DataSort) → IsSome (flag_sort ss) → IsArity ss
flag_arity (BoolSort ∷ []) h = (omega arith, omega arith)
flag_arity _ h = cc

flags_arity : (ss : List DataSort) → IsSome (flags_sort ss) → IsArity ss
flags_arity (BoolSort ∷ BoolSort ∷ []) h = (omega arith, omega arith)
flags_arity _ h = cc

choice_arity : (ss : List DataSort) → IsSome (choice_sort ss) → IsArity ss
choice_arity (BoolSort ∷ a ∷ b ∷ []) h = (omega arith, omega arith)
choice_arity _ h = cc

equality_arity : (ss : List DataSort) → IsSome (equality_sort ss) → IsArity ss
equality_arity (a ∷ b ∷ []) h = (omega arith, omega arith)
equality_arity _ h = cc

word_arity : (f : ℕ → Option DataSort) (ss : List DataSort) → IsSome (word_sort f ss) → IsArity ss
word_arity f (BitsSort w ∷ []) h = (omega arith, omega arith)
word_arity f _ h = cc

words_arity : (f : ℕ → ℕ → Option DataSort) (ss : List DataSort) → IsSome (two_words_sort f ss) → IsArity ss
words_arity f (BitsSort v ∷ BitsSort w ∷ []) h = (omega arith, omega arith)
words_arity f _ h = cc

get_arity : (ss : List DataSort) → IsSome (get_sort ss) → IsArity ss
get_arity (MapSort k v ∷ BitsSort w ∷ []) h = (omega arith, omega arith)
get_arity _ h = cc

put_arity : (ss : List DataSort) → IsSome (put_sort ss) → IsArity ss
put_arity (MapSort k v ∷ BitsSort w ∷ BitsSort u ∷ []) h = (omega arith, omega arith)
put_arity _ h = cc

arity : (op : Op) (ss : List DataSort) → IsSome (op_sort op ss) → (1 ≤ length ss) × (length ss ≤ 3)
arity Not ss h = flag_arity ss h
arity And ss h = flags_arity ss h
arity Or ss h = flags_arity ss h
arity Ite ss h = choice_arity ss h
arity Eq ss h = equality_arity ss h
arity BvNot ss h = word_arity _ ss h
arity Neg ss h = word_arity _ ss h
arity (Extract hi lo) ss h = word_arity _ ss h
arity (Zext n) ss h = word_arity _ ss h
arity (Sext n) ss h = word_arity _ ss h
arity Get ss h = get_arity ss h
arity Put ss h = put_arity ss h
arity _ ss h = words_arity _ ss h

-- so a node has from one to three
pub some_args : (op : Op) (sorts : List DataSort) (args : List ℕ) → IsSome (op_sort op (at_places BoolSort sorts args)) → 1 ≤ length args
some_args op sorts args h = rw (length-map args (λ (k : ℕ). get_or sorts k BoolSort)) at (arity op (at_places BoolSort sorts args) h).0

pub few_args : (op : Op) (sorts : List DataSort) (args : List ℕ) → IsSome (op_sort op (at_places BoolSort sorts args)) → length args ≤ 3
few_args op sorts args h = rw (length-map args (λ (k : ℕ). get_or sorts k BoolSort)) at (arity op (at_places BoolSort sorts args) h).1
