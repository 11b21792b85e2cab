-- Words with which an operator gives one scalar.
use Rattle.std.proofs.Common.{arith, ◌≡◌, ℕ, suc, ◌+◌, ◌-◌, ◌<◌, ◌≤◌, ◌^◌, Bool, true, false, not, nat_lt, nat_le, bit_or, refl, sym, ap, ◌∙◌, subst}
use Rattle.std.specs.Int.Bits.{or_add_and}
use Rattle.std.proofs.lemmas.Bool.{lt-ltb, le-ltb, le-leb, lt-leb, leb-true, leb-false, ltb-true, ltb-false}
use Rattle.std.proofs.lemmas.Nat.{and_mask, pow_pos}
use Rattle.std.proofs.Math.Nat.{two-pow-succ, mod-eq_of_lt}
use Rattle.data_value.specs.declared.Scalar.TheVariants.{Flag, Bits}
use Rattle.data_value.specs.declared.Value.TheVariants.{One}
use Rattle.data_value.specs.declared.Op.TheVariants.{Ult, Ule, Slt, Sle, BvOr}
use Rattle.data_value.specs.Words.{is_negative, signed_rank}
use Rattle.simplify.specs.Rewrites.{IsAbsorbing, IsOpposite}

pub or_absorbs : (w y : ℕ) → y ≡ 2 ^ w - 1 → IsAbsorbing BvOr w y (Bits w y)
or_absorbs w y e = λ x below.
    let both = or_add_and x (2 ^ w - 1) in
    let low = and_mask x w ∙ mod-eq_of_lt below in
    subst (λ k. One (Bits w (bit_or x k)) ≡ One (Bits w k)) (sym e) (ap (λ k. One (Bits w k)) (omega arith))

pub ult_absorbs : (w y : ℕ) → y ≡ 0 → IsAbsorbing Ult w y (Flag false)
ult_absorbs w y e = λ x below. ap (λ b. One (Flag b)) (le-ltb x y (omega arith))

pub ule_absorbs : (w y : ℕ) → y ≡ 2 ^ w - 1 → IsAbsorbing Ule w y (Flag true)
ule_absorbs w y e = λ x below. ap (λ b. One (Flag b)) (le-leb x y (omega arith))

two_halves : (w : ℕ) → 1 ≤ w → 2 ^ w ≡ 2 ^ (w - 1) + 2 ^ (w - 1)
two_halves w pos = let e : w ≡ suc (w - 1) = omega arith in ap (λ n. 2 ^ n) e ∙ two-pow-succ (w - 1)

rank_by : (w x : ℕ) (b : Bool) → x < 2 ^ w → 1 ≤ w → is_negative w x ≡ b → signed_rank w x < 2 ^ w
rank_by w x true below pos e = rw e (omega arith)
rank_by w x false below pos e = rw e (let h = leb-false (2 ^ (w - 1)) x e in let d = two_halves w pos in omega arith)

rank_below : (w x : ℕ) → x < 2 ^ w → 1 ≤ w → signed_rank w x < 2 ^ w
rank_below w x below pos = rank_by w x (is_negative w x) below pos refl

least_rank : (w y : ℕ) → y ≡ 2 ^ (w - 1) → signed_rank w y ≡ 0
least_rank w y e = rw (le-leb (2 ^ (w - 1)) y (omega arith)) (omega arith)

greatest_rank : (w y : ℕ) → 1 ≤ w → y ≡ 2 ^ (w - 1) - 1 → signed_rank w y ≡ 2 ^ w - 1
greatest_rank w y pos e =
    let p = pow_pos (w - 1) in
    let d = two_halves w pos in
    rw (lt-leb (2 ^ (w - 1)) y (omega arith)) (omega arith)

pub slt_absorbs : (w y : ℕ) → y ≡ 2 ^ (w - 1) → IsAbsorbing Slt w y (Flag false)
slt_absorbs w y e = λ x below. ap (λ b. One (Flag b)) (le-ltb (signed_rank w x) (signed_rank w y) (let h = least_rank w y e in omega arith))

pub sle_absorbs : (w y : ℕ) → 1 ≤ w → y ≡ 2 ^ (w - 1) - 1 → IsAbsorbing Sle w y (Flag true)
sle_absorbs w y pos e = λ x below. ap (λ b. One (Flag b)) (le-leb (signed_rank w x) (signed_rank w y) (let h = greatest_rank w y pos e in let r = rank_below w x below pos in omega arith))

less_by : (x y : ℕ) (p : Bool) → nat_le y x ≡ p → nat_lt x y ≡ not p
less_by x y true h = le-ltb x y (leb-true y x h)
less_by x y false h = lt-ltb x y (leb-false y x h)

most_by : (x y : ℕ) (p : Bool) → nat_lt y x ≡ p → nat_le x y ≡ not p
most_by x y true h = lt-leb x y (ltb-true y x h)
most_by x y false h = le-leb x y (ltb-false y x h)

pub ult_opposite : IsOpposite Ult Ule
ult_opposite w x y p h = ap (λ b. One (Flag b)) (less_by x y p (cc))

pub ule_opposite : IsOpposite Ule Ult
ule_opposite w x y p h = ap (λ b. One (Flag b)) (most_by x y p (cc))

pub slt_opposite : IsOpposite Slt Sle
slt_opposite w x y p h = ap (λ b. One (Flag b)) (less_by (signed_rank w x) (signed_rank w y) p (cc))

pub sle_opposite : IsOpposite Sle Slt
sle_opposite w x y p h = ap (λ b. One (Flag b)) (most_by (signed_rank w x) (signed_rank w y) p (cc))
