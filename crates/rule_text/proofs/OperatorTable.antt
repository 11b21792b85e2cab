-- What the table of operators says of their names.
use Rattle.std.proofs.Common.{◌≡◌, ℕ, List, [], ◌∷◌, Bool, true, false, not, ◌&&◌, ◌||◌, ◌==◌, nat_eq, bytes_eq, codes, if◌then◌else◌, inl, inr, refl, sym, ◌∙◌, ap, arith, Bor, get_or, length, take, ◌<◌, ◌+◌}
use Rattle.std.specs.List.{list_all, list_any}
use Rattle.std.proofs.lemmas.Bool.Decides.{nat_tests}
use Rattle.std.proofs.lemmas.List.Folds.{list_any_at, list_any_more}
use Rattle.sort_term.specs.Names.{is_reserved_word}
use Rattle.sexp_text.proofs.Truth.{and_left, and_right, or_cases, not_true, same_of, same_true, all_true}
use Rattle.rule_text.specs.Operators.{is_operator}
use Rattle.rule_text.specs.Written.{flag_word}
use Rattle.rule_text.specs.declared.operators.TheConstants.{OPERATORS}

-- a test of bytes tells what they are
pub word_of : (a b : List ℕ) → bytes_eq a b ≡ true → a ≡ b
word_of [] [] h = refl
word_of [] (y ∷ b) h = absurd cc
word_of (x ∷ a) [] h = absurd cc
word_of (x ∷ a) (y ∷ b) h =
    let first : nat_eq x y ≡ true = and_left (nat_eq x y) (bytes_eq a b) h in
    let front : x ≡ y = grind (arith, nat_tests) in
    let rest : a ≡ b = word_of a b (and_right (nat_eq x y) (bytes_eq a b) h) in cc

pub same_bytes : (word : List ℕ) → bytes_eq word word ≡ true
same_bytes [] = refl
same_bytes (byte ∷ word) = let here : nat_eq byte byte ≡ true = grind (arith, nat_tests) in let rest = same_bytes word in cc

-- words that a test tells apart
pub other_word : (a b : List ℕ) → bytes_eq a b ≡ false → a ≡ b → ⊥
other_word a b differ e = let same : bytes_eq a b ≡ true = ap (bytes_eq a) (sym e) ∙ same_bytes a in absurd cc

-- one element passes a test, and all pass another
any_of_all : {X : Type 0} (p q : X → Bool) (xs : List X) → list_any p xs ≡ true → list_all q xs ≡ true → (x : X) × (p x ≡ true) × (q x ≡ true)
any_of_all p q [] some all = absurd cc
any_of_all p q (x ∷ xs) some all =
    elim (or_cases (p x) (list_any p xs) some) [
      | inl here ↦ (x, here, and_left (q x) (list_all q xs) all)
      | inr later ↦ any_of_all p q xs later (and_right (q x) (list_all q xs) all)
    ]

-- an operator as the table has it
abbrev Row : Type 0
Row = record { now : List ℕ } × ℕ × ℕ

-- the row of an operator, which passes whatever test all rows do
row_of : (q : Row → Bool) (name : List ℕ) (n a : ℕ) → list_all q OPERATORS ≡ true → is_operator name n a ≡ true → (op : Row) × (name ≡ op.0.now) × (op.1 ≡ n) × (op.2 ≡ a) × (q op ≡ true)
unfolding is_operator
row_of q name n a all is =
    let there = any_of_all (λ op. bytes_eq op.0.now name && (op.1 == n && op.2 == a)) q OPERATORS is all in
    let op = there.0 in
    let counts : (op.1 == n && op.2 == a) ≡ true = and_right (bytes_eq op.0.now name) _ there.1 in
    (op, sym (word_of op.0.now name (and_left (bytes_eq op.0.now name) _ there.1)), same_of op.1 n (and_left (op.1 == n) _ counts), same_of op.2 a (and_right (op.1 == n) _ counts), there.2)

-- the counts of the first operator of a name
counts_in : List Row → List ℕ → ℕ × ℕ
counts_in [] name = (0, 0)
counts_in (op ∷ ops) name = if bytes_eq op.0.now name then (op.1, op.2) else counts_in ops name

all_reserved : list_all (λ (op : Row). is_reserved_word op.0.now) OPERATORS ≡ true
unfolding is_reserved_word
all_reserved = refl

all_counted : list_all (λ (op : Row). ((counts_in OPERATORS op.0.now).0 == op.1) && ((counts_in OPERATORS op.0.now).1 == op.2)) OPERATORS ≡ true
unfolding counts_in
all_counted = refl

-- an operator's name is reserved
pub op_reserved : (name : List ℕ) (n a : ℕ) → is_operator name n a ≡ true → is_reserved_word name ≡ true
op_reserved name n a is = let row = row_of (λ op. is_reserved_word op.0.now) name n a all_reserved is in ap is_reserved_word row.1 ∙ row.4

-- an operator takes one number of numbers and of arguments
counted : (name : List ℕ) (n a : ℕ) → is_operator name n a ≡ true → ((counts_in OPERATORS name).0 ≡ n) × ((counts_in OPERATORS name).1 ≡ a)
counted name n a is =
    let row = row_of (λ op. ((counts_in OPERATORS op.0.now).0 == op.1) && ((counts_in OPERATORS op.0.now).1 == op.2)) name n a all_counted is in
    let op = row.0 in (
      ap (λ w. (counts_in OPERATORS w).0) row.1 ∙ same_of (counts_in OPERATORS op.0.now).0 op.1 (and_left _ _ row.4) ∙ row.2,
      ap (λ w. (counts_in OPERATORS w).1) row.1 ∙ same_of (counts_in OPERATORS op.0.now).1 op.2 (and_right _ _ row.4) ∙ row.3,
    )

pub one_count : (name : List ℕ) (n a m b : ℕ) → is_operator name n a ≡ true → is_operator name m b ≡ true → (n ≡ m) × (a ≡ b)
one_count name n a m b p q = let first = counted name n a p in let second = counted name m b q in (sym first.0 ∙ second.0, sym first.1 ∙ second.1)

-- a word that no row has is no operator
pub no_operator : (word : List ℕ) (n a : ℕ) → list_all (λ (op : Row). not (bytes_eq word op.0.now)) OPERATORS ≡ true → is_operator word n a ≡ true → ⊥
no_operator word n a none is =
    let row = row_of (λ op. not (bytes_eq word op.0.now)) word n a none is in
    other_word word row.0.0.now (not_true _ row.4) row.1

-- `bits`, `map` and `row` are reserved words, and no operators
bits_unlisted : list_all (λ (op : Row). not (bytes_eq (codes "bits") op.0.now)) OPERATORS ≡ true
bits_unlisted = refl

map_unlisted : list_all (λ (op : Row). not (bytes_eq (codes "map") op.0.now)) OPERATORS ≡ true
map_unlisted = refl

row_unlisted : list_all (λ (op : Row). not (bytes_eq (codes "row") op.0.now)) OPERATORS ≡ true
row_unlisted = refl

pub bits_no_operator : (n a : ℕ) → is_operator (codes "bits") n a ≡ true → ⊥
bits_no_operator n a = no_operator (codes "bits") n a bits_unlisted

pub map_no_operator : (n a : ℕ) → is_operator (codes "map") n a ≡ true → ⊥
map_no_operator n a = no_operator (codes "map") n a map_unlisted

pub row_no_operator : (n a : ℕ) → is_operator (codes "row") n a ≡ true → ⊥
row_no_operator n a = no_operator (codes "row") n a row_unlisted

pub bits_reserved : is_reserved_word (codes "bits") ≡ true
unfolding is_reserved_word
bits_reserved = refl

pub map_reserved : is_reserved_word (codes "map") ≡ true
unfolding is_reserved_word
map_reserved = refl

pub row_reserved : is_reserved_word (codes "row") ≡ true
unfolding is_reserved_word
row_reserved = refl

pub flag_reserved : (b : Bool) → is_reserved_word (flag_word b) ≡ true
unfolding is_reserved_word
flag_reserved true = refl
flag_reserved false = refl

pub one_flag : (b c : Bool) → flag_word b ≡ flag_word c → b ≡ c
one_flag true true e = refl
one_flag true false e = absurd (other_word (codes "true") (codes "false") refl e)
one_flag false true e = absurd (other_word (codes "false") (codes "true") refl e)
one_flag false false e = refl

-- the first row of a name, as a walk over rows finds it
module _ (ops : List (Bor (List ℕ) × ℕ × ℕ)) (name : List ℕ) (i : ℕ) (d : Bor (List ℕ) × ℕ × ℕ) (within : i < length ops) where
  pub row_found : bytes_eq (get_or ops i d).0.now name ≡ true → list_any (λ op. bytes_eq op.0.now name && (op.1 == (get_or ops i d).1 && op.2 == (get_or ops i d).2)) ops ≡ true
  row_found is =
      list_any_at (λ op. bytes_eq op.0.now name && (op.1 == (get_or ops i d).1 && op.2 == (get_or ops i d).2)) ops i d within
      (all_true _ _ _ is (same_true (get_or ops i d).1) (same_true (get_or ops i d).2))

  pub row_passed : bytes_eq (get_or ops i d).0.now name ≡ false → ((n a : ℕ) → list_any (λ op. bytes_eq op.0.now name && (op.1 == n && op.2 == a)) (take i ops) ≡ false) → (n a : ℕ) → list_any (λ op. bytes_eq op.0.now name && (op.1 == n && op.2 == a)) (take (i + 1) ops) ≡ false
  row_passed isnt before n a =
      let more = list_any_more (λ op. bytes_eq op.0.now name && (op.1 == n && op.2 == a)) ops i d within in
      let here : (bytes_eq (get_or ops i d).0.now name && ((get_or ops i d).1 == n && (get_or ops i d).2 == a)) ≡ false = ap (λ t. t && ((get_or ops i d).1 == n && (get_or ops i d).2 == a)) isnt in
      more ∙ ap (λ t. t || (bytes_eq (get_or ops i d).0.now name && ((get_or ops i d).1 == n && (get_or ops i d).2 == a))) (before n a) ∙ here
