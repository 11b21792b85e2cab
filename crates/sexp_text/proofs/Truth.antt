-- What tests of numbers and combinations of truth values say.
use Rattle.std.proofs.Common.{◌≡◌, ◌≢◌, ◌≤◌, ◌<◌, ◌⊎◌, ℕ, Bool, true, false, not, ◌&&◌, ◌||◌, ◌==◌, nat_le, nat_lt, refl, ◌∙◌, ap, inl, inr, arith}
use Rattle.std.proofs.lemmas.Bool.Decides.{nat_tests}

pub and_left : (a b : Bool) → (a && b) ≡ true → a ≡ true
and_left true b h = refl
and_left false b h = h

pub and_right : (a b : Bool) → (a && b) ≡ true → b ≡ true
and_right true b h = h
and_right false b h = cc

pub and_false : (a b : Bool) → b ≡ false → (a && b) ≡ false
and_false true b h = h
and_false false b h = refl

pub and_first_false : (a b : Bool) → (a && b) ≡ false → b ≡ true → a ≡ false
and_first_false true b h t = cc
and_first_false false b h t = refl

pub all_true : (a b c : Bool) → a ≡ true → b ≡ true → c ≡ true → (a && (b && c)) ≡ true
all_true a b c p q r = ap (λ t. t && (b && c)) p ∙ ap (λ t. t && c) q ∙ r

pub second_false : (a b c : Bool) → b ≡ false → (a && (b && c)) ≡ false
second_false true b c h = ap (λ t. t && c) h
second_false false b c h = refl

pub third_false : (a b c : Bool) → c ≡ false → (a && (b && c)) ≡ false
third_false true true c h = h
third_false true false c h = refl
third_false false b c h = refl

pub or_true : (a b : Bool) → b ≡ true → (a || b) ≡ true
or_true true b h = refl
or_true false b h = h

pub or_cases : (a b : Bool) → (a || b) ≡ true → (a ≡ true) ⊎ (b ≡ true)
or_cases true b h = inl refl
or_cases false b h = inr h

pub not_true : (a : Bool) → not a ≡ true → a ≡ false
not_true true h = cc
not_true false h = refl

pub same_of : (m n : ℕ) → (m == n) ≡ true → m ≡ n
same_of m n h = grind (arith, nat_tests)

pub same_true : (n : ℕ) → (n == n) ≡ true
same_true n = grind (arith, nat_tests)

pub same_false : (m n : ℕ) → m ≢ n → (m == n) ≡ false
same_false m n h = grind (arith, nat_tests)

pub le_of : (m n : ℕ) → nat_le m n ≡ true → m ≤ n
le_of m n h = grind (arith, nat_tests)

pub le_true : (m n : ℕ) → m ≤ n → nat_le m n ≡ true
le_true m n h = grind (arith, nat_tests)

pub le_false : (m n : ℕ) → n < m → nat_le m n ≡ false
le_false m n h = grind (arith, nat_tests)

pub lt_of : (m n : ℕ) → nat_lt m n ≡ true → m < n
lt_of m n h = grind (arith, nat_tests)

pub lt_true : (m n : ℕ) → m < n → nat_lt m n ≡ true
lt_true m n h = grind (arith, nat_tests)

pub lt_false : (m n : ℕ) → n ≤ m → nat_lt m n ≡ false
lt_false m n h = grind (arith, nat_tests)

-- a number that passes a test differs from one that fails it
pub differs : (test : ℕ → Bool) (m n : ℕ) → test m ≡ true → test n ≡ false → (m == n) ≡ false
differs test m n t f = same_false m n (λ e. let same : test m ≡ test n = ap test e in cc)
