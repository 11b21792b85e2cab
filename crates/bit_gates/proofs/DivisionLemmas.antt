-- Quotients and remainders.
use Rattle.std.proofs.Common.{ℕ, zero, suc, ◌⊎◌, ◌≡◌, ◌<◌, ◌≤◌, ◌+◌, ◌-◌, ◌*◌, ◌^◌, ◌%◌, ◌/◌, inl, inr, Bool, true, false, ◌&&◌, ◌||◌, eqb, ltb, if◌then◌else◌, List, [], ◌∷◌, ◌++◌, length, replicate, refl, ap, ◌∙◌, sym, arith}
use Rattle.std.proofs.lemmas.Nat.{pow-add, pow_pos, mod_below, div-mul-add, mod-mul-add, mul-le, div-add-mod'}
use Rattle.std.proofs.lemmas.Bool.{and_parts, and_from, or_cases, or_left, or_right, lt-ltb, ltb-true, eqb-true, eq-eqb}
use Rattle.std.proofs.Math.Nat.{mod-eq_of_lt}
use Rattle.refute_check.specs.declared.lit.Lit.{Lit}
use Rattle.refute_check.specs.Truth.{lit_true, all_true}
use Rattle.data_value.specs.Words.{wrap, quotient, remainder}
use Rattle.data_value.proofs.WordLemmas.{quotient_below, remainder_below}
use Rattle.bit_gates.specs.declared.builder.Builder.{Builder}
use Rattle.bit_gates.specs.Bits.{number, constant_lit}
use Rattle.bit_gates.specs.Grows.{Grows, Holds}
use Rattle.bit_gates.specs.Meaning.{HasLits, IsBit, IsWord}
use Rattle.bit_gates.specs.Free.{IsFree}
use Rattle.bit_gates.specs.Division.{IsDivision, is_rest, is_division}
use Rattle.bit_gates.proofs.RangeLemmas.{clause_below_more, all_same, all_true_parts, all_true_both}
use Rattle.bit_gates.proofs.KnownLemmas.{by_cases, known, one_true, true_one}
use Rattle.bit_gates.proofs.NumberLemmas.{number_below}
use Rattle.bit_gates.proofs.WordLemmas.{word_same}
use Rattle.bit_gates.proofs.LayoutLemmas.{is_zeros, is_ones}
use Rattle.bit_gates.proofs.FreeLemmas.{number_same}

-- ---- what the test says
-- a product and a sum of numbers up to m, of which nothing is cut
uncut : (m x y r q : ℕ) → q ≡ (m + 1) * (m + 1) → x ≤ m → y ≤ m → r ≤ m → ((x * y) % q + r) % q ≡ x * y + r
uncut m x y r q h hx hy hr =
    let a : x * y ≤ m * m = mul-le x y m m hx hy in
    let l : x * y < q = omega arith in
    let k : x * y + r < q = omega arith in
    ap (λ (n : ℕ). (n + r) % q) (mod-eq_of_lt l) ∙ mod-eq_of_lt k

quotient_at : (w x y : ℕ) (v : Bool) → eqb y 0 ≡ v → quotient w x y ≡ (if v then 2 ^ w - 1 else x / y)
quotient_at w x y v e = ap (λ (u : Bool). if u then 2 ^ w - 1 else x / y) e

remainder_at : (x y : ℕ) (v : Bool) → eqb y 0 ≡ v → remainder x y ≡ (if v then x else x % y)
remainder_at x y v e = ap (λ (u : Bool). if u then x else x % y) e

positive : (y : ℕ) → eqb y 0 ≡ false → 0 < y
positive y e = elim (eq-or-lt y) [ inl z ↦ let f : true ≡ false = sym (eq-eqb y 0 z) ∙ e in cc | inr l ↦ l ]
  where
    eq-or-lt : (n : ℕ) → (n ≡ 0) ⊎ (0 < n)
    eq-or-lt zero = inl refl
    eq-or-lt (suc n) = inr (omega arith)

division_means : (w x y q r : ℕ) → is_division w x y q r ≡ true → (q ≡ quotient w x y) × (r ≡ remainder x y)
division_means w x y q r h =
    let p = and_parts (eqb (q * y + r) x) (is_rest w y q r) h in
    let e : q * y + r ≡ x = eqb-true _ _ p.0 in
    by_cases ((q ≡ quotient w x y) × (r ≡ remainder x y)) (eqb y 0)
    (λ z.
    let n : y ≡ 0 = eqb-true y 0 z in
    let s : q * y ≡ q * 0 = ap (λ (k : ℕ). q * k) n in
    elim (or_cases _ _ p.1) [
      | inl l ↦ let t : r < y = ltb-true _ _ l in absurd (omega arith)
      | inr g ↦
          let f : q ≡ 2 ^ w - 1 = eqb-true q (2 ^ w - 1) (and_parts (eqb y 0) (eqb q (2 ^ w - 1)) g).1 in
          (f ∙ sym (quotient_at w x y true z), (let t : r ≡ x = omega arith in t) ∙ sym (remainder_at x y true z))
    ])
    (λ z.
    elim (or_cases _ _ p.1) [
      | inl l ↦
          let t : r < y = ltb-true _ _ l in (
            sym (quotient_at w x y false z ∙ ap (λ (n : ℕ). n / y) (sym e) ∙ div-mul-add q y r t),
            sym (remainder_at x y false z ∙ ap (λ (n : ℕ). n % y) (sym e) ∙ mod-mul-add q y r t),
          )
      | inr g ↦ let f : eqb y 0 ≡ true = (and_parts (eqb y 0) (eqb q (2 ^ w - 1)) g).0 in let k : true ≡ false = sym f ∙ z in cc
    ])

pub division_holds : (w x y q r : ℕ) → q ≡ quotient w x y → r ≡ remainder x y → is_division w x y q r ≡ true
division_holds w x y q r f g = by_cases (is_division w x y q r ≡ true) (eqb y 0)
    (λ z.
    let n : y ≡ 0 = eqb-true y 0 z in
    let s : q * y ≡ q * 0 = ap (λ (k : ℕ). q * k) n in
    let a : q ≡ 2 ^ w - 1 = f ∙ quotient_at w x y true z in
    let b : r ≡ x = g ∙ remainder_at x y true z in
    and_from _ _ (eq-eqb _ _ (let e : q * y + r ≡ x = omega arith in e)) (or_right _ _ (and_from _ _ z (eq-eqb _ _ a))))
    (λ z.
    let a : q ≡ x / y = f ∙ quotient_at w x y false z in
    let b : r ≡ x % y = g ∙ remainder_at x y false z in
    let c : q * y + r ≡ x = ap (λ (k : ℕ). k * y + r) a ∙ ap (λ (k : ℕ). x / y * y + k) b ∙ div-add-mod' x y in
    let l : r < y = rw b (mod_below x y (positive y z)) in
    and_from _ _ (eq-eqb _ _ c) (or_left _ _ (lt-ltb _ _ l)))

-- ---- the circuit
pub is_product_sum : (b b1 b2 : Builder) (qs ys rs q0 y0 r0 q1 y1 r1 ps p1 ss : List Lit) → length qs ≡ length ys → length rs ≡ length ys
    → IsWord b q0 (2 * length ys) (λ a. number a qs) → q1 ≡ q0 → IsWord b y0 (2 * length ys) (λ a. number a ys) → y1 ≡ y0 → IsWord b r0 (2 * length ys) (λ a. number a rs) → r1 ≡ r0
    → Grows b b1 → IsWord b1 ps (length q1) (λ a. wrap (length q1) (number a q1 * number a y1)) → p1 ≡ ps → Grows b1 b2 → IsWord b2 ss (length p1) (λ a. wrap (length p1) (number a p1 + number a r1))
    → IsWord b2 ss (2 * length ys) (λ a. number a qs * number a ys + number a rs)
is_product_sum b b1 b2 qs ys rs q0 y0 r0 q1 y1 r1 ps p1 ss wq wr q eq y ey r er g1 p ep g2 t =
    let lq : length q1 ≡ 2 * length ys = ap (λ (l : List Lit). length l) eq ∙ q.width in
    let lp : length p1 ≡ 2 * length ys = ap (λ (l : List Lit). length l) ep ∙ p.width ∙ lq in
    word_same (2 * length ys) (λ a. number a qs * number a ys + number a rs) t lp
    (λ a o.
    let o1 = g2.keeps a o in
    let o0 = g1.keeps a o1 in
    let w : ℕ = length ys in
    let vq : number a q1 ≡ number a qs = ap (number a) eq ∙ q.means a o0 in
    let vy : number a y1 ≡ number a ys = ap (number a) ey ∙ y.means a o0 in
    let vr : number a r1 ≡ number a rs = ap (number a) er ∙ r.means a o0 in
    let vp : number a p1 ≡ (number a qs * number a ys) % 2 ^ (2 * w) =
    ap (number a) ep ∙ p.means a o1 ∙ ap (λ (n : ℕ). (number a q1 * number a y1) % 2 ^ n) lq ∙ ap (λ (n : ℕ). (n * number a y1) % 2 ^ (2 * w)) vq ∙ ap (λ (n : ℕ). (number a qs * n) % 2 ^ (2 * w)) vy in
    let e2 : 2 * w ≡ w + w = omega arith in
    let hp : 2 ^ (2 * w) ≡ 2 ^ w * 2 ^ w = ap (λ (n : ℕ). 2 ^ n) e2 ∙ pow-add 2 w w in
    let pp : 0 < 2 ^ w = pow_pos w in
    let hm : 2 ^ w - 1 + 1 ≡ 2 ^ w = omega arith in
    let hq : 2 ^ (2 * w) ≡ (2 ^ w - 1 + 1) * (2 ^ w - 1 + 1) = rw hm hp in
    let bq : number a qs < 2 ^ w = rw wq at (number_below a qs) in
    let by : number a ys < 2 ^ w = number_below a ys in
    let br : number a rs < 2 ^ w = rw wr at (number_below a rs) in
    ap (λ (n : ℕ). (number a p1 + number a r1) % 2 ^ n) lp ∙ ap (λ (n : ℕ). (n + number a r1) % 2 ^ (2 * w)) vp ∙ ap (λ (n : ℕ). ((number a qs * number a ys) % 2 ^ (2 * w) + n) % 2 ^ (2 * w)) vr
    ∙ uncut (2 ^ w - 1) (number a qs) (number a ys) (number a rs) (2 ^ (2 * w)) hq (omega arith) (omega arith) (omega arith))

pub is_rest_bit : (b b1 b2 b3 b4 b5 : Builder) (ys qs rs n0 n1 o0 o1 : List Lit) (c d less nil full known fits : Lit)
    → c ≡ constant_lit false → n0 ≡ replicate (length ys) c → n1 ≡ n0 → d ≡ constant_lit true → o0 ≡ replicate (length ys) d → o1 ≡ o0 → Grows b b1
    → IsBit b1 less (λ a. ltb (number a rs) (number a ys)) → Grows b1 b2 → IsBit b2 nil (λ a. eqb (number a ys) (number a n1)) → Grows b2 b3 → IsBit b3 full (λ a. eqb (number a qs) (number a o1))
    → Grows b3 b4 → IsBit b4 known (λ a. lit_true a nil && lit_true a full) → Grows b4 b5 → IsBit b5 fits (λ a. lit_true a less || lit_true a known)
    → IsBit b5 fits (λ a. is_rest (length ys) (number a ys) (number a qs) (number a rs))
is_rest_bit b b1 b2 b3 b4 b5 ys qs rs n0 n1 o0 o1 c d less nil full known fits ec en1 en2 ed eo1 eo2 g1 hl g2 hz g3 hf g4 hk g5 ht = record {
  in_range = ht.in_range;
  means = λ a h5.
      let h4 = g5.keeps a h5 in
      let h3 = g4.keeps a h4 in
      let h2 = g3.keeps a h3 in
      let h1 = g2.keeps a h2 in
      let h0 = g1.keeps a h1 in
      let vn : number a n1 ≡ 0 = ap (number a) en2 ∙ (is_zeros b n0 c (length ys) ec en1).means a h0 in
      let vo : number a o1 ≡ 2 ^ length ys - 1 = ap (number a) eo2 ∙ (is_ones b o0 d (length ys) ed eo1).means a h0 in
      let k : lit_true a known ≡ (eqb (number a ys) 0 && eqb (number a qs) (2 ^ length ys - 1)) =
      hk.means a h4 ∙ ap (λ (t : Bool). t && lit_true a full) (hz.means a h2 ∙ ap (λ (t : ℕ). eqb (number a ys) t) vn)
      ∙ ap (λ (t : Bool). eqb (number a ys) 0 && t) (hf.means a h3 ∙ ap (λ (t : ℕ). eqb (number a qs) t) vo) in
      ht.means a h5 ∙ ap (λ (t : Bool). t || lit_true a known) (hl.means a h1) ∙ ap (λ (t : Bool). ltb (number a rs) (number a ys) || t) k;
}

pub is_divided : (b b1 b2 b3 b4 : Builder) (xs ys qs rs ts t1 ws w1 : List Lit) (same fits both : Lit) → length ys ≡ length xs
    → IsWord b1 ts (2 * length ys) (λ a. number a qs * number a ys + number a rs) → t1 ≡ ts → IsWord b1 ws (2 * length xs) (λ a. number a xs) → w1 ≡ ws
    → Grows b1 b2 → IsBit b2 same (λ a. eqb (number a t1) (number a w1)) → Grows b2 b3 → IsBit b3 fits (λ a. is_rest (length ys) (number a ys) (number a qs) (number a rs))
    → Grows b3 b4 → IsBit b4 both (λ a. lit_true a same && lit_true a fits)
    → IsBit b4 both (λ a. is_division (length xs) (number a xs) (number a ys) (number a qs) (number a rs))
is_divided b b1 b2 b3 b4 xs ys qs rs ts t1 ws w1 same fits both l t e1 w e2 g2 hs g3 hf g4 hb = record {
  in_range = hb.in_range;
  means = λ a o4.
      let o3 = g4.keeps a o4 in
      let o2 = g3.keeps a o3 in
      let o1 = g2.keeps a o2 in
      let s : lit_true a same ≡ eqb (number a qs * number a ys + number a rs) (number a xs) =
      hs.means a o2 ∙ ap (λ (n : ℕ). eqb n (number a w1)) (ap (number a) e1 ∙ t.means a o1) ∙ ap (λ (n : ℕ). eqb (number a qs * number a ys + number a rs) n) (ap (number a) e2 ∙ w.means a o1) in
      hb.means a o4 ∙ ap (λ (v : Bool). v && lit_true a fits) s ∙ ap (λ (v : Bool). eqb (number a qs * number a ys + number a rs) (number a xs) && v) (hf.means a o3)
      ∙ ap (λ (n : ℕ). eqb (number a qs * number a ys + number a rs) (number a xs) && is_rest n (number a ys) (number a qs) (number a rs)) l;
}

-- ---- the two words
pub divide_extends : (b b1 b2 b3 b4 : Builder) (xs ys qs rs q1 r1 : List Lit) (good : Lit) → IsFree b b1 qs (length xs) → IsFree b1 b2 rs (length xs) → Grows b2 b3 → q1 ≡ qs → r1 ≡ rs
    → IsBit b3 good (λ a. is_division (length xs) (number a xs) (number a ys) (number a q1) (number a r1)) → b4.clauses.vars ≡ b3.clauses.vars → b4.clauses.list ≡ b3.clauses.list ++ (good ∷ []) ∷ []
    → HasLits b xs → HasLits b ys → length ys ≡ length xs → Grows b b4
divide_extends b b1 b2 b3 b4 xs ys qs rs q1 r1 good f1 f2 g e1 e2 h ev ec sx sy wy = record {
  grows = let l1 = f1.grows in let l2 = f2.grows in let l3 = g.grows in omega arith;
  keeps = λ a o.
      let o3 = (all_true_parts a b3.clauses.list ((good ∷ []) ∷ []) (ap (all_true a) (sym ec) ∙ o)).0 in
      ap (all_true a) (sym (f2.clauses ∙ f1.clauses)) ∙ g.keeps a o3;
  reaches = λ a o.
      let w : ℕ = length xs in
      let x : ℕ = number a xs in
      let y : ℕ = number a ys in
      let bx : x < 2 ^ w = number_below a xs in
      let by : y < 2 ^ w = rw wy at (number_below a ys) in
      let p1 = f1.picks a (quotient w x y) (quotient_below w x y bx) in
      let p2 = f2.picks p1.bits (remainder x y) (remainder_below w x y bx by) in
      let s2 : (k : ℕ) → k < b.clauses.vars → p2.bits k ≡ a k = λ k l. let l1 = f1.grows in let l' : k < b1.clauses.vars = omega arith in p2.same k l' ∙ p1.same k l in
      let o2 : all_true p2.bits b2.clauses.list ≡ true = ap (all_true p2.bits) (f2.clauses ∙ f1.clauses) ∙ all_same b.clauses.vars a p2.bits b.clauses.list s2 b.clauses.scoped ∙ o in
      let r = g.reaches p2.bits o2 in
      let s3 : (k : ℕ) → k < b.clauses.vars → r.bits k ≡ a k = λ k l. let l1 = f1.grows in let l2 = f2.grows in let l' : k < b2.clauses.vars = omega arith in r.same k l' ∙ s2 k l in
      let vx : number r.bits xs ≡ x = number_same b.clauses.vars a r.bits xs s3 sx in
      let vy : number r.bits ys ≡ y = number_same b.clauses.vars a r.bits ys s3 sy in
      let vr : number r.bits r1 ≡ remainder x y = ap (number r.bits) e2 ∙ number_same b2.clauses.vars p2.bits r.bits rs r.same f2.in_range ∙ p2.spells in
      let vq : number r.bits q1 ≡ quotient w x y =
      ap (number r.bits) e1 ∙ number_same b1.clauses.vars p1.bits r.bits qs (λ k l. let l2 = f2.grows in let l' : k < b2.clauses.vars = omega arith in r.same k l' ∙ p2.same k l) f1.in_range ∙ p1.spells in
      let d : is_division w (number r.bits xs) (number r.bits ys) (number r.bits q1) (number r.bits r1) ≡ true = rw (vx, vy) (division_holds w x y (number r.bits q1) (number r.bits r1) vq vr) in
      let t : lit_true r.bits good ≡ true = h.means r.bits r.holds ∙ d in
      record { bits = r.bits; holds = ap (all_true r.bits) ec ∙ all_true_both r.bits b3.clauses.list ((good ∷ []) ∷ []) r.holds (true_one r.bits good t); same = s3 };
}

pub divide_means : (b b1 b2 b3 b4 : Builder) (xs ys qs rs q1 r1 : List Lit) (good : Lit) → IsFree b b1 qs (length xs) → IsFree b1 b2 rs (length xs) → Grows b2 b3 → q1 ≡ qs → r1 ≡ rs
    → IsBit b3 good (λ a. is_division (length xs) (number a xs) (number a ys) (number a q1) (number a r1)) → b4.clauses.vars ≡ b3.clauses.vars → b4.clauses.list ≡ b3.clauses.list ++ (good ∷ []) ∷ []
    → IsDivision b4 xs ys qs rs
divide_means b b1 b2 b3 b4 xs ys qs rs q1 r1 good f1 f2 g e1 e2 h ev ec =
    let l2 = f2.grows in
    let l3 = g.grows in
    let m : (a : ℕ → Bool) → Holds b4 a → (number a qs ≡ quotient (length xs) (number a xs) (number a ys)) × (number a rs ≡ remainder (number a xs) (number a ys)) = λ a o.
    let p = all_true_parts a b3.clauses.list ((good ∷ []) ∷ []) (ap (all_true a) (sym ec) ∙ o) in
    let t = sym (h.means a p.0) ∙ one_true a good p.1 in
    let d = division_means (length xs) (number a xs) (number a ys) (number a q1) (number a r1) t in
    (ap (number a) (sym e1) ∙ d.0, ap (number a) (sym e2) ∙ d.1) in
    record {
      quotient = record { in_range = clause_below_more b1.clauses.vars b4.clauses.vars qs (omega arith) f1.in_range; width = f1.width; means = λ a o. (m a o).0 };
      remainder = record { in_range = clause_below_more b2.clauses.vars b4.clauses.vars rs (omega arith) f2.in_range; width = f2.width; means = λ a o. (m a o).1 };
    }
