-- Operators that are written as they are to be, with numbers in their limits, are operators.
use Rattle.std.proofs.Common.{arith, ◌≡◌, ℕ, Bool, true, false, ◌&&◌, ◌||◌, ◌==◌, nat_lt, if◌then◌else◌, List, [], ◌∷◌, map, length, Option, None, Some, refl, sym, ap, ap₂, ◌∙◌}
use Rattle.std.specs.Prelude.{not, codes, bytes_eq, option_and_then}
use Rattle.std.specs.List.{list_all, list_any}
use Rattle.std.proofs.lemmas.Bool.{and_parts, and_from, not-false}
use Rattle.std.proofs.lemmas.Bool.Decides.{Decides-eqb, nat_tests}
use Rattle.std.proofs.lemmas.Slice.Eq.{bytes_eq-Decides}
use Rattle.data_value.specs.Sorts.{is_width}
use Rattle.data_value.specs.declared.Op.{Op}
use Rattle.data_value.specs.declared.Op.TheVariants.{Not, And, Or, Ite, Eq, BvNot, Neg, Add, Sub, Mul, Udiv, Urem, BvAnd, BvOr, BvXor, Shl, Lshr, Ashr, Ult, Ule, Slt, Sle, Concat, Extract, Zext, Sext, Get, Put}
use Rattle.rule_text.specs.Operators.{is_operator}
use Rattle.rule_text.specs.declared.operators.TheConstants.{OPERATORS}
use Rattle.name_resolution.specs.declared.operators.TheConstants.{OPERATOR_NAMES}
use Rattle.name_resolution.specs.Operators.{first_named, with_numbers, operator_of, are_numbers_within}
use Rattle.name_resolution.specs.Strays.{is_above_bits}

-- how many numbers an operator takes, and which names those with numbers have
abbrev takes : Op → List ℕ → ℕ → Bool
takes (Extract _ _) name count = bytes_eq name (codes "extract") && (count == 2)
takes (Zext _) name count = bytes_eq name (codes "zext") && (count == 1)
takes (Sext _) name count = bytes_eq name (codes "sext") && (count == 1)
takes _ name count = count == 0

abbrev takes_if_there : Option Op → List ℕ → ℕ → Bool
takes_if_there None name count = false
takes_if_there (Some op) name count = takes op name count

abbrev named : List ℕ → Option Op
named name = first_named name (map (λ row. (row.0.now, row.1)) OPERATOR_NAMES)

-- the two tables agree
tables_agree : list_all (λ row. takes_if_there (named row.0.now) row.0.now row.1) OPERATORS ≡ true
tables_agree = refl

-- something that passes one test of a list passes each test that all of the list pass
passing : {X : Type 0} (p q : X → Bool) (xs : List X) → list_any p xs ≡ true → list_all q xs ≡ true → (x : X) × (p x ≡ true) × (q x ≡ true)
passing p q [] some all = absurd cc
passing {X} p q (x ∷ xs) some all = by (p x) refl some (λ rest. passing p q xs rest (and_parts (q x) (list_all q xs) all).1)
  where
    by : (b : Bool) → p x ≡ b → (b || list_any p xs) ≡ true → (list_any p xs ≡ true → (y : X) × (p y ≡ true) × (q y ≡ true)) → (y : X) × (p y ≡ true) × (q y ≡ true)
    by true here h later = (x, here, (and_parts (q x) (list_all q xs) all).0)
    by false here h later = later h

-- an operator that is written with so many numbers takes as many
row_of : (name : List ℕ) (numbers arguments : ℕ) → is_operator name numbers arguments ≡ true → takes_if_there (named name) name numbers ≡ true
unfolding is_operator
row_of name numbers arguments written =
    let found = passing (λ op. bytes_eq op.0.now name && (op.1 == numbers && op.2 == arguments)) (λ row. takes_if_there (named row.0.now) row.0.now row.1) OPERATORS written tables_agree in
    let row = found.0 in
    let tests = and_parts (bytes_eq row.0.now name) (row.1 == numbers && row.2 == arguments) found.1 in
    let counts = and_parts (row.1 == numbers) (row.2 == arguments) tests.1 in
    let same : row.0.now ≡ name = (bytes_eq-Decides row.0.now name).0 tests.0 in
    let count : row.1 ≡ numbers = (Decides-eqb row.1 numbers).0 counts.0 in
    sym (ap₂ (λ word n. takes_if_there (named word) word n) same count) ∙ found.2

-- an operator is there
abbrev pub There : {X : Type 0} → Option X → Type 0
There {X} o = (x : X) × (o ≡ Some x)

no_numbers : (numbers : List ℕ) (op : Op) → with_numbers [] op ≡ Some op → (length numbers == 0) ≡ true → There (with_numbers numbers op)
no_numbers [] op plain count = (op, plain)
no_numbers (n ∷ more) op plain count = absurd (grind (arith, nat_tests))

pub if_there : {X : Type 0} (b : Bool) (x : X) → b ≡ true → There (if b then Some x else None)
if_there true x h = (x, refl)
if_there false x h = absurd cc

within_bits : (is : Bool) (b : Bool) → is ≡ true → (is && not b) ≡ false → b ≡ true
within_bits true b h e = not-false b e
within_bits false b h e = absurd cc

count_of : (is : Bool) (n m : ℕ) → (is && (n == m)) ≡ true → n ≡ m
count_of is n m h = (Decides-eqb n m).0 (and_parts is (n == m) h).1

extract_there : (name numbers : List ℕ) (a b : ℕ) → takes (Extract a b) name (length numbers) ≡ true → is_above_bits name numbers ≡ false → There (with_numbers numbers (Extract a b))
extract_there name [] a b fits bits = absurd (let n = count_of (bytes_eq name (codes "extract")) 0 2 fits in omega arith)
extract_there name (hi ∷ []) a b fits bits = absurd (let n = count_of (bytes_eq name (codes "extract")) 1 2 fits in omega arith)
extract_there name (hi ∷ lo ∷ []) a b fits bits =
    let is = (and_parts (bytes_eq name (codes "extract")) (length (hi ∷ lo ∷ []) == 2) fits).0 in
    let below = within_bits (bytes_eq name (codes "extract")) (list_all (λ n. nat_lt n 64) (hi ∷ lo ∷ [])) is bits in
    let high = and_parts (nat_lt hi 64) (list_all (λ n. nat_lt n 64) (lo ∷ [])) below in
    let low = and_parts (nat_lt lo 64) (list_all (λ n. nat_lt n 64) []) high.1 in
    if_there (nat_lt hi 64 && nat_lt lo 64) (Extract hi lo) (and_from (nat_lt hi 64) (nat_lt lo 64) high.0 low.0)
extract_there name (hi ∷ lo ∷ n ∷ more) a b fits bits = absurd (let n = count_of (bytes_eq name (codes "extract")) (length (hi ∷ lo ∷ n ∷ more)) 2 fits in omega arith)

-- a width that is told to be one
told_width : (zext sext width : Bool) → (zext || sext) ≡ true → (not (zext || sext) || width) ≡ true → width ≡ true
told_width true sext width is h = h
told_width false true width is h = h
told_width false false width is h = absurd cc

width_there : (name numbers : List ℕ) (is : Bool) (op : Op) (make : ℕ → Op) → ((width : ℕ) → with_numbers (width ∷ []) op ≡ (if is_width width then Some (make width) else None)) → (is && (length numbers == 1)) ≡ true → (is ≡ true → (bytes_eq name (codes "zext") || bytes_eq name (codes "sext")) ≡ true) → are_numbers_within name numbers ≡ true → There (with_numbers numbers op)
width_there name [] is op make made fits named limits = absurd (let n = count_of is 0 1 fits in omega arith)
width_there name (width ∷ []) is op make made fits named limits =
    let ok = told_width (bytes_eq name (codes "zext")) (bytes_eq name (codes "sext")) (is_width width) (named (and_parts is (length (width ∷ []) == 1) fits).0) limits in
    (make width, made width ∙ ap (λ b. if b then Some (make width) else None) ok)
width_there name (width ∷ n ∷ more) is op make made fits named limits = absurd (let n = count_of is (length (width ∷ n ∷ more)) 1 fits in omega arith)

or_left : (a b : Bool) → a ≡ true → (a || b) ≡ true
or_left true b h = refl
or_left false b h = absurd cc

or_right : (a b : Bool) → b ≡ true → (a || b) ≡ true
or_right true b h = refl
or_right false b h = h

module _ (name numbers : List ℕ) (limits : are_numbers_within name numbers ≡ true) (bits : is_above_bits name numbers ≡ false) where
  with_numbers_there : (op : Op) → takes op name (length numbers) ≡ true → There (with_numbers numbers op)
  with_numbers_there (Extract a b) fits = extract_there name numbers a b fits bits
  with_numbers_there (Zext w) fits = width_there name numbers (bytes_eq name (codes "zext")) (Zext w) Zext (λ _. refl) fits (or_left (bytes_eq name (codes "zext")) (bytes_eq name (codes "sext"))) limits
  with_numbers_there (Sext w) fits = width_there name numbers (bytes_eq name (codes "sext")) (Sext w) Sext (λ _. refl) fits (or_right (bytes_eq name (codes "zext")) (bytes_eq name (codes "sext"))) limits
  with_numbers_there Not fits = no_numbers numbers Not refl fits
  with_numbers_there And fits = no_numbers numbers And refl fits
  with_numbers_there Or fits = no_numbers numbers Or refl fits
  with_numbers_there Ite fits = no_numbers numbers Ite refl fits
  with_numbers_there Eq fits = no_numbers numbers Eq refl fits
  with_numbers_there BvNot fits = no_numbers numbers BvNot refl fits
  with_numbers_there Neg fits = no_numbers numbers Neg refl fits
  with_numbers_there Add fits = no_numbers numbers Add refl fits
  with_numbers_there Sub fits = no_numbers numbers Sub refl fits
  with_numbers_there Mul fits = no_numbers numbers Mul refl fits
  with_numbers_there Udiv fits = no_numbers numbers Udiv refl fits
  with_numbers_there Urem fits = no_numbers numbers Urem refl fits
  with_numbers_there BvAnd fits = no_numbers numbers BvAnd refl fits
  with_numbers_there BvOr fits = no_numbers numbers BvOr refl fits
  with_numbers_there BvXor fits = no_numbers numbers BvXor refl fits
  with_numbers_there Shl fits = no_numbers numbers Shl refl fits
  with_numbers_there Lshr fits = no_numbers numbers Lshr refl fits
  with_numbers_there Ashr fits = no_numbers numbers Ashr refl fits
  with_numbers_there Ult fits = no_numbers numbers Ult refl fits
  with_numbers_there Ule fits = no_numbers numbers Ule refl fits
  with_numbers_there Slt fits = no_numbers numbers Slt refl fits
  with_numbers_there Sle fits = no_numbers numbers Sle refl fits
  with_numbers_there Concat fits = no_numbers numbers Concat refl fits
  with_numbers_there Get fits = no_numbers numbers Get refl fits
  with_numbers_there Put fits = no_numbers numbers Put refl fits

  among_rows : (o : Option Op) → takes_if_there o name (length numbers) ≡ true → There (option_and_then (with_numbers numbers) o)
  among_rows None fits = absurd cc
  among_rows (Some op) fits = with_numbers_there op fits

  -- an operator that is written as it is to be, with numbers in their limits, is one
  pub operator_there : (arguments : ℕ) → is_operator name (length numbers) arguments ≡ true → (op : Op) × (operator_of name numbers ≡ Some op)
  unfolding operator_of
  operator_there arguments written = among_rows (named name) (row_of name (length numbers) arguments written)
