-- Sums, a bit at a time, and what differences and the order are made of.
use Rattle.std.proofs.Common.{ℕ, suc, ◌≡◌, ◌<◌, ◌≤◌, ◌+◌, ◌-◌, ◌*◌, ◌^◌, ◌%◌, Bool, true, false, not, nat_lt, nat_le, ltb, leb, List, [], ◌∷◌, ◌++◌, length, take, map, replicate, get_or, refl, ap, ◌∙◌, sym, arith, length-append}
use Rattle.std.proofs.Math.Nat.{add-mul-mod_self_left, mod-eq_of_lt}
use Rattle.std.proofs.lemmas.Bool.{lt-ltb, le-ltb, ltb-true, ltb-false, lt-leb, le-leb}
use Rattle.std.proofs.lemmas.List.{length-take-le, length-replicate}
use Rattle.refute_check.specs.declared.lit.Lit.{Lit}
use Rattle.bit_gates.specs.declared.builder.Builder.{Builder}
use Rattle.bit_gates.specs.declared.sums.BitSum.{BitSum}
use Rattle.bit_gates.specs.declared.sums.Sum.{Sum}
use Rattle.refute_check.specs.Truth.{lit_true, clause_below, flipped}
use Rattle.refute_check.proofs.TruthLemmas.{flipped_true}
use Rattle.data_value.specs.Words.{wrap, signed_rank}
use Rattle.bit_gates.specs.Bits.{bit, number, constant_lit}
use Rattle.bit_gates.specs.Grows.{Grows}
use Rattle.bit_gates.specs.Meaning.{HasLit, IsWord, IsBit}
use Rattle.bit_gates.specs.Sums.{IsBitSum, IsSum}
use Rattle.bit_gates.proofs.KnownLemmas.{known, bit_same, bit_flipped}
use Rattle.bit_gates.proofs.WordLemmas.{word_same, number_flips, number_replicate, take_all}
use Rattle.bit_gates.proofs.RangeLemmas.{clause_below_more, clause_below_append, one_below}
use Rattle.bit_gates.proofs.NumberLemmas.{number_nil, number_append, number_take, number_below, doubled}

-- a sum of three bits, by its two bits, and a sum of words, by its bits and the one above them
abbrev pub bit_sum_of : Lit → Lit → BitSum
bit_sum_of low high = record { low = low; high = high }

abbrev pub sum_of : List Lit → Lit → Sum
sum_of bits carry = record { bits = bits; carry = carry }

pub sum_none : (b : Builder) (xs ys zs : List Lit) (c : Lit) → zs ≡ [] → HasLit b c → IsSum b (take 0 xs) (take 0 ys) c (sum_of zs c)
unfolding clause_below
sum_none b xs ys zs c e h = record {
  low = rw e refl;
  high = h;
  width = rw e refl;
  means = λ a k. rw (e, number_nil a) (omega arith);
}

-- one digit more
digit : (p q x x' y y' z z' u v s d e c : ℕ) → q ≡ 2 * p → z' ≡ z + p * s → x' ≡ x + p * u → y' ≡ y + p * v → z + p * e ≡ x + y + c → s + 2 * d ≡ u + v + e → z' + q * d ≡ x' + y' + c
digit p q x x' y y' z z' u v s d e c hq hz hx hy h k =
    let m : p * (s + 2 * d) ≡ p * (u + v + e) = ap (λ (n : ℕ). p * n) k in
    rw (hq, hz, hx, hy) (omega arith)

pub sum_more : (b b' : Builder) (xs ys zs : List Lit) (c d s e x0 : Lit) (i : ℕ) → IsSum b (take i xs) (take i ys) c (sum_of zs d) → Grows b b' → i < length xs → length ys ≡ length xs
    → IsBitSum b' (get_or xs i x0) (get_or ys i x0) d (bit_sum_of s e) → IsSum b' (take (i + 1) xs) (take (i + 1) ys) c (sum_of (zs ++ s ∷ []) e)
sum_more b b' xs ys zs c d s e x0 i h g l w t =
    let lx : length (take i xs) ≡ i = length-take-le i xs (omega arith) in
    let lx1 : length (take (i + 1) xs) ≡ i + 1 = length-take-le (i + 1) xs (omega arith) in
    let lz : length zs ≡ i = h.width ∙ lx in
    record {
      low = clause_below_append b'.clauses.vars zs (s ∷ []) (clause_below_more b.clauses.vars b'.clauses.vars zs g.grows h.low) (one_below b'.clauses.vars s t.low);
      high = t.high;
      width = rw lx1 (length-append zs (s ∷ []) ∙ rw lz refl);
      means = λ a k.
          let m = h.means a (g.keeps a k) in
          let n = t.means a k in
          let m1 : number a zs + 2 ^ i * bit (lit_true a d) ≡ number a (take i xs) + number a (take i ys) + bit (lit_true a c) = rw lx at m in
          let ez : number a (zs ++ s ∷ []) ≡ number a zs + 2 ^ i * bit (lit_true a s) = rw lz at (number_append a zs s) in
          let ex = number_take a xs i x0 l in
          let ey : number a (take (i + 1) ys) ≡ number a (take i ys) + 2 ^ i * bit (lit_true a (get_or ys i x0)) = number_take a ys i x0 (omega arith) in
          let ei : i + 1 ≡ suc i = omega arith in
          let p : 2 ^ length (take (i + 1) xs) ≡ 2 * 2 ^ i = ap (λ (n : ℕ). 2 ^ n) (lx1 ∙ ei) ∙ doubled i (2 ^ i) refl in
          digit (2 ^ i) _ _ _ _ _ _ _ _ _ _ _ _ _ p ez ex ey m1 n;
    }

pub sum_all : (b : Builder) (xs ys zs : List Lit) (c d : Lit) (i : ℕ) → i ≡ length xs → length ys ≡ length xs → IsSum b (take i xs) (take i ys) c (sum_of zs d) → IsSum b xs ys c (sum_of zs d)
sum_all b xs ys zs c d i e w h = rw (take_all xs i e, take_all ys i (omega arith)) at h

-- ---- a sum with no carry in
added : (p z d x y : ℕ) → z < p → z + p * d ≡ x + y + 0 → z ≡ (x + y) % p
added p z d x y l e =
    let f : x + y ≡ z + p * d = omega arith in
    sym (ap (λ (n : ℕ). n % p) f ∙ add-mul-mod_self_left z p d ∙ mod-eq_of_lt l)

pub is_added : (b : Builder) (xs ys zs : List Lit) (c d : Lit) → c ≡ constant_lit false → IsSum b xs ys c (sum_of zs d) → IsWord b zs (length xs) (λ a. wrap (length xs) (number a xs + number a ys))
is_added b xs ys zs c d e h = record {
  in_range = h.low;
  width = h.width;
  means = λ a o.
      let m = h.means a o in
      let none : bit (lit_true a c) ≡ 0 = ap bit (known b c false a e o) in
      let l : number a zs < 2 ^ length xs = rw h.width at (number_below a zs) in
      added (2 ^ length xs) (number a zs) (bit (lit_true a d)) (number a xs) (number a ys) l (rw none at m);
}

-- ---- difference
difference : (p x y n z : ℕ) (d : Bool) → z + p * bit d ≡ x + n + 1 → n + y + 1 ≡ p → z < p → z ≡ (x + p - y) % p
difference p x y n z d h k l =
    let e : x + p - y ≡ z + p * bit d = omega arith in
    sym (ap (λ (t : ℕ). t % p) e ∙ add-mul-mod_self_left z p (bit d) ∙ mod-eq_of_lt l)

is_below : (p x y n z : ℕ) (d : Bool) → z + p * bit d ≡ x + n + 1 → n + y + 1 ≡ p → z < p → not d ≡ nat_lt x y
is_below p x y n z true h k l = sym (le-ltb x y (omega arith))
is_below p x y n z false h k l = sym (lt-ltb x y (omega arith))

pub is_difference : (b : Builder) (xs ys fs zs : List Lit) (c d : Lit) → c ≡ constant_lit true → fs ≡ map flipped ys → length ys ≡ length xs → IsSum b xs fs c (sum_of zs d)
    → IsWord b zs (length xs) (λ a. (number a xs + 2 ^ length xs - number a ys) % 2 ^ length xs)
is_difference b xs ys fs zs c d e f w h = record {
  in_range = h.low;
  width = h.width;
  means = λ a o.
      let m = h.means a o in
      let one : bit (lit_true a c) ≡ 1 = ap bit (known b c true a e o) in
      let n : number a fs ≡ number a (map flipped ys) = ap (number a) f in
      let k : number a (map flipped ys) + number a ys + 1 ≡ 2 ^ length xs = number_flips a ys ∙ ap (λ (t : ℕ). 2 ^ t) w in
      let l : number a zs < 2 ^ length xs = rw h.width at (number_below a zs) in
      difference (2 ^ length xs) (number a xs) (number a ys) (number a fs) (number a zs) (lit_true a d) (rw one at m) (rw n k) l;
}

pub is_order : (b : Builder) (xs ys fs zs : List Lit) (c d r : Lit) → c ≡ constant_lit true → fs ≡ map flipped ys → length ys ≡ length xs → r ≡ flipped d → IsSum b xs fs c (sum_of zs d)
    → IsBit b r (λ a. nat_lt (number a xs) (number a ys))
is_order b xs ys fs zs c d r e f w q h = record {
  in_range = rw q h.high;
  means = λ a o.
      let m = h.means a o in
      let one : bit (lit_true a c) ≡ 1 = ap bit (known b c true a e o) in
      let n : number a fs ≡ number a (map flipped ys) = ap (number a) f in
      let k : number a (map flipped ys) + number a ys + 1 ≡ 2 ^ length xs = number_flips a ys ∙ ap (λ (t : ℕ). 2 ^ t) w in
      let l : number a zs < 2 ^ length xs = rw h.width at (number_below a zs) in
      ap (lit_true a) q ∙ flipped_true a d ∙ is_below (2 ^ length xs) (number a xs) (number a ys) (number a fs) (number a zs) (lit_true a d) (rw one at m) (rw n k) l;
}

pub is_negated : (b b' : Builder) (xs cs ds zs : List Lit) (c : Lit) → c ≡ constant_lit false → cs ≡ replicate (length xs) c → ds ≡ cs
    → IsWord b' zs (length ds) (λ a. wrap (length ds) (number a ds + 2 ^ length ds - number a xs)) → IsWord b' zs (length xs) (λ a. wrap (length xs) (2 ^ length xs - number a xs))
is_negated b b' xs cs ds zs c e f g h =
    let w : length ds ≡ length xs = ap (λ (l : List Lit). length l) (g ∙ f) ∙ length-replicate (length xs) c in
    word_same (length xs) (λ a. wrap (length xs) (2 ^ length xs - number a xs)) h w
    (λ a o.
    let t : bit (lit_true a c) ≡ 0 = ap bit (known b' c false a e o) in
    let z : number a ds ≡ 0 = ap (number a) (g ∙ f) ∙ number_replicate a c (length xs) ∙ ap (λ (m : ℕ). m * (2 ^ length xs - 1)) t ∙ omega arith in
    let y : 0 + 2 ^ length xs - number a xs ≡ 2 ^ length xs - number a xs = omega arith in
    rw (z, w) (ap (λ (n : ℕ). n % 2 ^ length xs) y))

-- ---- orders
not_below : (x y : ℕ) → not (ltb y x) ≡ leb x y
not_below x y = order_cases (ltb y x) refl
  where
    order_cases : (v : Bool) → ltb y x ≡ v → not v ≡ leb x y
    order_cases true e = let l : y < x = ltb-true y x e in sym (lt-leb x y l)
    order_cases false e = let l : x ≤ y = ltb-false y x e in sym (le-leb x y l)

-- a word is at most another where the other is not below it
pub is_at_most : (b : Builder) (x y : (ℕ → Bool) → ℕ) (z r : Lit) → r ≡ flipped z → IsBit b z (λ a. nat_lt (y a) (x a)) → IsBit b r (λ a. nat_le (x a) (y a))
is_at_most b x y z r e h = bit_same (λ a. nat_le (x a) (y a)) (bit_flipped r h e) (λ a o. not_below (x a) (y a))

-- the signed order is the order of the ranks
pub is_signed_below : (b b' : Builder) (xs ys fs gs f1 g1 : List Lit) (z : Lit) → length ys ≡ length xs → Grows b b' → IsWord b fs (length xs) (λ a. signed_rank (length xs) (number a xs)) → f1 ≡ fs
    → IsWord b gs (length ys) (λ a. signed_rank (length ys) (number a ys)) → g1 ≡ gs → IsBit b' z (λ a. nat_lt (number a f1) (number a g1))
    → IsBit b' z (λ a. nat_lt (signed_rank (length xs) (number a xs)) (signed_rank (length xs) (number a ys)))
is_signed_below b b' xs ys fs gs f1 g1 z w k f e g q h = bit_same (λ a. nat_lt (signed_rank (length xs) (number a xs)) (signed_rank (length xs) (number a ys))) h
    (λ a o.
    let o' = k.keeps a o in
    ap (λ (n : ℕ). nat_lt n (number a g1)) (ap (number a) e ∙ f.means a o')
    ∙ ap (λ (n : ℕ). nat_lt (signed_rank (length xs) (number a xs)) n) (ap (number a) q ∙ g.means a o' ∙ ap (λ (n : ℕ). signed_rank n (number a ys)) w))
