-- The words that operators give are below 2 to the power of their width.
use Rattle.std.proofs.Common.{◌≡◌, ◌<◌, ◌≤◌, ◌^◌, ◌+◌, ◌-◌, ◌*◌, ◌/◌, ◌%◌, ℕ, true, false, nat_lt, if◌then◌else◌, arith, rules, ap, subst, Fits, w64}
use Rattle.std.proofs.Math.Nat.{pow-le-pow_right, div-le_self}
use Rattle.std.proofs.lemmas.Nat.{pow-add, pow_pos, shr_below, mul-add-lt, mod_below}
use Rattle.std.proofs.lemmas.Bool.Decides.{nat_tests}
use Rattle.data_value.specs.Words.{wrap, quotient, remainder, is_negative, shift_left, shift_right, shift_signed, top_ones, extend_signed}

pub two_to_le : (i j : ℕ) → i ≤ j → 2 ^ i ≤ 2 ^ j
two_to_le i j h = pow-le-pow_right {n = 2} (omega arith) h

-- a word of at most 64 bits fits a machine word
pub fits_64 : (w x : ℕ) → w ≤ 64 → x < 2 ^ w → Fits w64 x
fits_64 w x m h = let p = two_to_le w 64 m in let q : x < 2 ^ 64 = omega arith in search rules

-- a word that is moved down leaves its top bits free
pub shift_right_below : (w x y : ℕ) → x < 2 ^ w → shift_right w x y < 2 ^ (w - y)
shift_right_below w x y h =
    let moved : y < w → x / 2 ^ y < 2 ^ (w - y) =
    λ l. let e : w ≡ w - y + y = omega arith in shr_below x (w - y) y (subst (λ (n : ℕ). x < 2 ^ n) e h) in
    let room = pow_pos (w - y) in
    grind (arith, nat_tests)

-- ones fill what it leaves free
pub filled_below : (w x y : ℕ) → x < 2 ^ w → shift_right w x y + top_ones w y < 2 ^ w
filled_below w x y h =
    let moved : shift_right w x y < 2 ^ (w - y) = shift_right_below w x y h in
    let less = two_to_le (w - y) w (omega arith) in
    omega arith

pub concat_below : (v x w y : ℕ) → x < 2 ^ v → y < 2 ^ w → x * 2 ^ w + y < 2 ^ (v + w)
concat_below v x w y h l =
    let e = pow-add 2 w v in
    let b = mul-add-lt x (2 ^ w) y (2 ^ v) h l in
    let s : v + w ≡ w + v = omega arith in
    rw (s, e) b

pub quotient_below : (w x y : ℕ) → x < 2 ^ w → quotient w x y < 2 ^ w
quotient_below w x y h =
    let less = div-le_self x y in
    let room = pow_pos w in
    grind (arith, nat_tests)

pub remainder_below : (w x y : ℕ) → x < 2 ^ w → y < 2 ^ w → remainder x y < 2 ^ w
remainder_below w x y h l =
    let less : 0 < y → x % y < y = λ p. mod_below x y p in
    grind (arith, nat_tests)

pub wrap_below : (w x : ℕ) → wrap w x < 2 ^ w
wrap_below w x = mod_below x (2 ^ w) (pow_pos w)

pub shift_left_below : (w x y : ℕ) → shift_left w x y < 2 ^ w
shift_left_below w x y =
    let wrapped = wrap_below w (x * 2 ^ y) in
    let room = pow_pos w in
    elim (nat_lt y w) as (λ b. (if b then wrap w (x * 2 ^ y) else 0) < 2 ^ w) [ true ↦ wrapped | false ↦ room ]

pub shift_right_word : (w x y : ℕ) → x < 2 ^ w → shift_right w x y < 2 ^ w
shift_right_word w x y h =
    let moved = shift_right_below w x y h in
    let less = two_to_le (w - y) w (omega arith) in
    omega arith

pub shift_signed_below : (w x y : ℕ) → x < 2 ^ w → shift_signed w x y < 2 ^ w
shift_signed_below w x y h =
    elim (is_negative w x) as (λ b. (if b then shift_right w x y + top_ones w y else shift_right w x y) < 2 ^ w) [
      | true ↦ filled_below w x y h
      | false ↦ shift_right_word w x y h
    ]

pub extend_signed_below : (w n x : ℕ) → w ≤ n → x < 2 ^ w → extend_signed w n x < 2 ^ n
extend_signed_below w n x l h =
    let less = two_to_le w n l in
    let gap : n - (n - w) ≡ w = omega arith in
    let ones : 2 ^ (n - (n - w)) ≡ 2 ^ w = ap (λ (k : ℕ). 2 ^ k) gap in
    elim (is_negative w x) as (λ b. (if b then x + top_ones n (n - w) else x) < 2 ^ n) [
      | true ↦ omega arith
      | false ↦ omega arith
    ]
