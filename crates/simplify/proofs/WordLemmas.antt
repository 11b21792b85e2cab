-- Operators at words of which one is known.
use Rattle.std.proofs.Common.{arith, ◌≡◌, ℕ, zero, suc, ◌+◌, ◌-◌, ◌*◌, ◌/◌, ◌<◌, ◌≤◌, ◌^◌, ◌%◌, Bool, true, false, inl, inr, bit_and, bit_or, bit_xor, [], ◌∷◌, Some, None, refl, sym, ap, ◌∙◌, subst, if◌then◌else◌, ◌==◌}
use Rattle.std.specs.Int.Bits.{or_zero_r, xor_zero_r}
use Rattle.std.proofs.lemmas.Bool.{eq-eqb, lt-ltb, ne_eqb, cases_lt}
use Rattle.std.proofs.lemmas.Nat.{pow_pos, and_mask, and_comm, or_comm, xor_comm}
use Rattle.std.proofs.Math.Nat.{mod-eq_of_lt, add-mul-mod_self_left, mul_comm}
use Rattle.data_value.specs.declared.DataSort.{DataSort}
use Rattle.data_value.specs.declared.DataSort.TheVariants.{Bits as BitsSort}
use Rattle.data_value.specs.declared.Scalar.TheVariants.{Bits}
use Rattle.data_value.specs.declared.Value.TheVariants.{One}
use Rattle.data_value.specs.declared.Op.TheVariants.{Add, Sub, Mul, Udiv, Urem, BvAnd, BvOr, BvXor, Shl, Lshr, Ashr}
use Rattle.data_value.specs.Sorts.{same_words_sort}
use Rattle.data_value.specs.Words.{wrap, quotient, remainder, shift_left, shift_right, shift_signed, top_ones, is_negative}
use Rattle.std.proofs.Math.Nat.{two-pow-succ}
use Rattle.simplify.specs.Rewrites.{IsNeutral, IsCommutative, IsReplacing}
use Rattle.data_value.proofs.WordLemmas.{two_to_le}

-- two words of one width are of one width
pub one_width : (w : ℕ) (f : ℕ → DataSort) → same_words_sort f (BitsSort w ∷ BitsSort w ∷ []) ≡ Some (f w)
one_width w f = ap (λ b. if b then Some (f w) else None) (eq-eqb w w refl)

pub add_neutral : (w y : ℕ) → y ≡ 0 → IsNeutral Add w y
add_neutral w y e = record {
  sort = one_width w BitsSort;
  means = λ x below. ap (λ k. One (Bits w k)) (let n : x + y ≡ x = omega arith in ap (wrap w) n ∙ mod-eq_of_lt below);
}

pub sub_neutral : (w y : ℕ) → y ≡ 0 → IsNeutral Sub w y
sub_neutral w y e = record {
  sort = one_width w BitsSort;
  means = λ x below. ap (λ k. One (Bits w k)) (let n : x + 2 ^ w - y ≡ x + 2 ^ w * 1 = omega arith in ap (wrap w) n ∙ add-mul-mod_self_left x (2 ^ w) 1 ∙ mod-eq_of_lt below);
}

pub mul_neutral : (w y : ℕ) → y ≡ 1 → IsNeutral Mul w y
mul_neutral w y e = record {
  sort = one_width w BitsSort;
  means = λ x below. ap (λ k. One (Bits w k)) (let n : x * 1 ≡ x = omega arith in ap (λ k. wrap w (x * k)) e ∙ ap (wrap w) n ∙ mod-eq_of_lt below);
}

pub udiv_neutral : (w y : ℕ) → y ≡ 1 → IsNeutral Udiv w y
udiv_neutral w y e = record {
  sort = one_width w BitsSort;
  means = λ x below. ap (λ k. One (Bits w k)) (let n : x / 1 ≡ x = omega arith in ap (quotient w x) e ∙ n);
}

pub and_neutral : (w y : ℕ) → y ≡ 2 ^ w - 1 → IsNeutral BvAnd w y
and_neutral w y e = record {
  sort = one_width w BitsSort;
  means = λ x below. ap (λ k. One (Bits w k)) (ap (bit_and x) e ∙ and_mask x w ∙ mod-eq_of_lt below);
}

pub or_neutral : (w y : ℕ) → y ≡ 0 → IsNeutral BvOr w y
or_neutral w y e = record {
  sort = one_width w BitsSort;
  means = λ x below. ap (λ k. One (Bits w k)) (ap (bit_or x) e ∙ or_zero_r x);
}

pub xor_neutral : (w y : ℕ) → y ≡ 0 → IsNeutral BvXor w y
xor_neutral w y e = record {
  sort = one_width w BitsSort;
  means = λ x below. ap (λ k. One (Bits w k)) (ap (bit_xor x) e ∙ xor_zero_r x);
}

unmoved_right : (w x : ℕ) → 1 ≤ w → shift_right w x 0 ≡ x
unmoved_right w x pos = ap (λ b. if b then x / 2 ^ 0 else 0) (lt-ltb 0 w (omega arith)) ∙ (let n : x / 1 ≡ x = omega arith in n)

pub shl_neutral : (w y : ℕ) → 1 ≤ w → y ≡ 0 → IsNeutral Shl w y
shl_neutral w y pos e = record {
  sort = one_width w BitsSort;
  means = λ x below. ap (λ k. One (Bits w k)) (
      ap (shift_left w x) e
      ∙ ap (λ b. if b then wrap w (x * 2 ^ 0) else 0) (lt-ltb 0 w (omega arith))
      ∙ (let n : x * 1 ≡ x = omega arith in ap (wrap w) n)
      ∙ mod-eq_of_lt below);
}

pub lshr_neutral : (w y : ℕ) → 1 ≤ w → y ≡ 0 → IsNeutral Lshr w y
lshr_neutral w y pos e = record {
  sort = one_width w BitsSort;
  means = λ x below. ap (λ k. One (Bits w k)) (ap (shift_right w x) e ∙ unmoved_right w x pos);
}

pub no_ones : (w : ℕ) → top_ones w 0 ≡ 0
no_ones w = let n : w - 0 ≡ w = omega arith in ap (λ k. 2 ^ w - 2 ^ k) n ∙ (let z : 2 ^ w - 2 ^ w ≡ 0 = omega arith in z)

unmoved_signed : (w x : ℕ) (b : Bool) → 1 ≤ w → (if b then shift_right w x 0 + top_ones w 0 else shift_right w x 0) ≡ x
unmoved_signed w x true pos = let a = unmoved_right w x pos in let b = no_ones w in omega arith
unmoved_signed w x false pos = unmoved_right w x pos

pub ashr_neutral : (w y : ℕ) → 1 ≤ w → y ≡ 0 → IsNeutral Ashr w y
ashr_neutral w y pos e = record {
  sort = one_width w BitsSort;
  means = λ x below. ap (λ k. One (Bits w k)) (ap (shift_signed w x) e ∙ unmoved_signed w x (is_negative w x) pos);
}

pub add_commutes : IsCommutative Add
add_commutes = λ w x y. ap (λ k. One (Bits w (wrap w k))) (let n : x + y ≡ y + x = omega arith in n)

pub mul_commutes : IsCommutative Mul
mul_commutes = λ w x y. ap (λ k. One (Bits w (wrap w k))) (mul_comm x y)

pub and_commutes : IsCommutative BvAnd
and_commutes = λ w x y. ap (λ k. One (Bits w k)) (and_comm x y)

pub or_commutes : IsCommutative BvOr
or_commutes = λ w x y. ap (λ k. One (Bits w k)) (or_comm x y)

pub xor_commutes : IsCommutative BvXor
xor_commutes = λ w x y. ap (λ k. One (Bits w k)) (xor_comm x y)

-- the exponent of a power of two that is a word
exponent_below : (w k : ℕ) → 2 ^ k < 2 ^ w → k < w
exponent_below w k lt = elim (cases_lt k w) [
  | inl h ↦ h
  | inr h ↦ absurd (let more = two_to_le w k h in omega arith)
]

less_than_power : (w : ℕ) → w < 2 ^ w
less_than_power zero = omega arith
less_than_power (suc w) = let h = less_than_power w in let e = two-pow-succ w in let p = pow_pos w in omega arith

exponent_fits : (w k : ℕ) → 2 ^ k < 2 ^ w → k < 2 ^ w
exponent_fits w k lt = let h = exponent_below w k lt in let p = less_than_power w in omega arith

not_zero : (k : ℕ) → (2 ^ k == 0) ≡ false
not_zero k = ne_eqb (2 ^ k) 0 (λ e. let p = pow_pos k in omega arith)

pub moved_left : (w k x : ℕ) → k < w → shift_left w x k ≡ wrap w (x * 2 ^ k)
moved_left w k x lt = ap (λ b. if b then wrap w (x * 2 ^ k) else 0) (lt-ltb k w lt)

pub moved_right : (w k x : ℕ) → k < w → shift_right w x k ≡ x / 2 ^ k
moved_right w k x lt = ap (λ b. if b then x / 2 ^ k else 0) (lt-ltb k w lt)

pub mul_power : (w y k : ℕ) → y < 2 ^ w → y ≡ 2 ^ k → IsReplacing Mul w y Shl k
mul_power w y k lt e = let below : 2 ^ k < 2 ^ w = subst (λ n. n < 2 ^ w) e lt in record {
  fits = exponent_fits w k below;
  sort = refl;
  means = λ x fits. ap (λ n. One (Bits w n)) (moved_left w k x (exponent_below w k below) ∙ ap (λ n. wrap w (x * n)) (sym e));
}

pub udiv_power : (w y k : ℕ) → y < 2 ^ w → y ≡ 2 ^ k → IsReplacing Udiv w y Lshr k
udiv_power w y k lt e = let below : 2 ^ k < 2 ^ w = subst (λ n. n < 2 ^ w) e lt in record {
  fits = exponent_fits w k below;
  sort = refl;
  means = λ x fits. ap (λ n. One (Bits w n)) (moved_right w k x (exponent_below w k below) ∙ sym (ap (quotient w x) e ∙ ap (λ b. if b then 2 ^ w - 1 else x / 2 ^ k) (not_zero k)));
}

pub urem_power : (w y k : ℕ) → y < 2 ^ w → y ≡ 2 ^ k → IsReplacing Urem w y BvAnd (y - 1)
urem_power w y k lt e = record {
  fits = omega arith;
  sort = refl;
  means = λ x fits. ap (λ n. One (Bits w n)) (ap (λ n. bit_and x (n - 1)) e ∙ and_mask x k ∙ sym (ap (remainder x) e ∙ ap (λ b. if b then x else x % 2 ^ k) (not_zero k)));
}
