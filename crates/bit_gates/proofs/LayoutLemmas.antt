-- Words made of constants and of bits of other words.
use Rattle.std.proofs.Common.{ℕ, zero, suc, ◌≡◌, ◌<◌, ◌≤◌, ◌+◌, ◌-◌, ◌*◌, ◌^◌, ◌%◌, ◌/◌, Bool, true, false, not, if◌then◌else◌, eqb, leb, List, [], ◌∷◌, ◌++◌, length, take, drop, replicate, map, get_or, refl, ap, ◌∙◌, sym, arith, length-drop, add-one}
use Rattle.std.proofs.Math.Seq.{take-suc}
use Rattle.std.proofs.lemmas.List.{length-take-le, length-map, length-replicate}
use Rattle.std.proofs.lemmas.Nat.{pow-add, pow_pos, mod_below, shr_high, mod-pow-add, div-add-mod', div_below}
use Rattle.std.proofs.Math.Nat.{add-mul-mod_self_left, mod-eq_of_lt, div-add-mod, mul-le-mul_left, div-div-eq-div-mul}
use Rattle.refute_check.specs.declared.lit.Lit.{Lit}
use Rattle.refute_check.specs.Truth.{lit_true, flipped}
use Rattle.refute_check.proofs.TruthLemmas.{flipped_true}
use Rattle.data_value.specs.Words.{wrap, signed_rank, bits_between, extend_signed}
use Rattle.bit_gates.specs.declared.builder.Builder.{Builder}
use Rattle.bit_gates.specs.Bits.{bit, number, constant_lit}
use Rattle.bit_gates.specs.Meaning.{HasLit, HasLits, IsWord}
use Rattle.bit_gates.specs.Moves.{moved_down}
use Rattle.bit_gates.proofs.RangeLemmas.{clause_below_take, clause_below_drop, clause_below_replicate, clause_below_flips, one_below}
use Rattle.bit_gates.proofs.KnownLemmas.{known, has_constant}
use Rattle.bit_gates.proofs.NumberLemmas.{number_nil, number_cons, number_append, number_below}
use Rattle.bit_gates.proofs.WordLemmas.{word_same, word_push, word_none, is_join, number_front, number_front_below, number_back, number_replicate, top_bit, number_flips, take_all}

-- ---- opposites
pub is_opposite : (b : Builder) (xs zs : List Lit) → HasLits b xs → zs ≡ map flipped xs → IsWord b zs (length xs) (λ a. 2 ^ length xs - 1 - number a xs)
is_opposite b xs zs h e = record {
  in_range = rw e (clause_below_flips b.clauses.vars xs h);
  width = ap (λ (l : List Lit). length l) e ∙ length-map xs flipped;
  means = λ a o. ap (number a) e ∙ (let f = number_flips a xs in omega arith);
}

-- ---- constants
pub digit_of : (n : ℕ) → n < 2 → bit (eqb n 1) ≡ n
digit_of zero h = refl
digit_of (suc zero) h = refl
digit_of (suc (suc n)) h = absurd (omega arith)

next_digit : (n i r : ℕ) (v : Bool) → r ≡ n / 2 ^ i → v ≡ eqb (r % 2) 1 → n % 2 ^ i + 2 ^ i * bit v ≡ n % 2 ^ (i + 1)
next_digit n i r v e f =
    let d : bit v ≡ r % 2 = ap bit f ∙ digit_of (r % 2) (mod_below r 2 (omega arith)) in
    let s : n % 2 ^ (1 + i) ≡ (n / 2 ^ i % 2 ^ 1) * 2 ^ i + n % 2 ^ i = mod-pow-add n 1 i in
    let c : i + 1 ≡ 1 + i = omega arith in
    let t : bit v ≡ n / 2 ^ i % 2 = d ∙ ap (λ (m : ℕ). m % 2) e in
    rw (c, s, t) (omega arith)

pub next_rest : (n i r : ℕ) → r ≡ n / 2 ^ i → r / 2 ≡ n / 2 ^ (i + 1)
next_rest n i r e =
    let p : 2 ^ (i + 1) ≡ 2 ^ i * 2 = pow-add 2 i 1 in
    ap (λ (m : ℕ). m / 2) e ∙ div-div-eq-div-mul n (2 ^ i) 2 ∙ ap (λ (m : ℕ). n / m) (sym p)

pub constant_none : (b : Builder) (n : ℕ) (zs : List Lit) → zs ≡ [] → IsWord b zs 0 (λ a. n % 2 ^ 0)
constant_none b n zs e = word_none b zs (λ a. n % 2 ^ 0) e (λ a. let l : n % 1 < 1 = mod_below n 1 (omega arith) in omega arith)

pub constant_more : (b : Builder) (n i r : ℕ) (zs ys : List Lit) (l : Lit) (v : Bool) → IsWord b zs i (λ a. n % 2 ^ i) → r ≡ n / 2 ^ i → v ≡ eqb (r % 2) 1 → l ≡ constant_lit v → ys ≡ zs ++ l ∷ []
    → IsWord b ys (i + 1) (λ a. n % 2 ^ (i + 1))
constant_more b n i r zs ys l v h e f q g = word_push ys l (i + 1) (λ a. n % 2 ^ (i + 1)) h g refl (has_constant b l v q)
    (λ a o. ap (λ (u : Bool). n % 2 ^ i + 2 ^ i * bit u) (known b l v a q o) ∙ next_digit n i r v e f)

-- copies of a constant
pub has_copies : (b : Builder) (ds cs : List Lit) (c : Lit) (v : Bool) (n : ℕ) → c ≡ constant_lit v → cs ≡ replicate n c → ds ≡ cs → HasLits b ds
has_copies b ds cs c v n e f g = rw (g, f) (clause_below_replicate b.clauses.vars c n (has_constant b c v e))

pub is_zeros : (b : Builder) (zs : List Lit) (c : Lit) (n : ℕ) → c ≡ constant_lit false → zs ≡ replicate n c → IsWord b zs n (λ a. 0)
is_zeros b zs c n e f = record {
  in_range = has_copies b zs zs c false n e f refl;
  width = ap (λ (t : List Lit). length t) f ∙ length-replicate n c;
  means = λ a o. ap (number a) f ∙ number_replicate a c n ∙ ap (λ (v : Bool). bit v * (2 ^ n - 1)) (known b c false a e o) ∙ omega arith;
}

pub is_ones : (b : Builder) (zs : List Lit) (c : Lit) (n : ℕ) → c ≡ constant_lit true → zs ≡ replicate n c → IsWord b zs n (λ a. 2 ^ n - 1)
is_ones b zs c n e f = record {
  in_range = has_copies b zs zs c true n e f refl;
  width = ap (λ (t : List Lit). length t) f ∙ length-replicate n c;
  means = λ a o. ap (number a) f ∙ number_replicate a c n ∙ ap (λ (v : Bool). bit v * (2 ^ n - 1)) (known b c true a e o) ∙ omega arith;
}

-- ---- one word above another
pub is_concat : (b : Builder) (xs ys zs : List Lit) → HasLits b xs → HasLits b ys → zs ≡ ys ++ xs → IsWord b zs (length xs + length ys) (λ a. number a xs * 2 ^ length ys + number a ys)
is_concat b xs ys zs h k e = word_same (length xs + length ys) (λ a. number a xs * 2 ^ length ys + number a ys) (is_join b ys xs zs k h e) (omega arith) (λ a o. omega arith)

pub is_extract : (b : Builder) (xs zs : List Lit) (hi lo : ℕ) → HasLits b xs → lo ≤ hi → hi < length xs → zs ≡ take (hi + 1 - lo) (drop lo xs) → IsWord b zs (hi - lo + 1) (λ a. bits_between hi lo (number a xs))
is_extract b xs zs hi lo h l k e =
    let d : length (drop lo xs) ≡ length xs - lo = length-drop lo xs in
    let c : hi + 1 - lo ≡ hi - lo + 1 = omega arith in
    let r : hi + 1 - lo ≤ length (drop lo xs) = omega arith in
    record {
      in_range = rw e (clause_below_take b.clauses.vars (drop lo xs) (hi + 1 - lo) (clause_below_drop b.clauses.vars xs lo h));
      width = ap (λ (t : List Lit). length t) e ∙ length-take-le (hi + 1 - lo) (drop lo xs) r ∙ c;
      means = λ a o.
          ap (number a) e ∙ number_front a (drop lo xs) (hi + 1 - lo) r
          ∙ ap (λ (m : ℕ). m % 2 ^ (hi + 1 - lo)) (number_back a xs lo (omega arith)) ∙ ap (λ (m : ℕ). (number a xs / 2 ^ lo) % 2 ^ m) c;
    }

-- ---- wider words
pub is_wide : (b : Builder) (xs cs zs : List Lit) (c : Lit) (n : ℕ) → HasLits b xs → length xs ≤ n → c ≡ constant_lit false → cs ≡ replicate (n - length xs) c → zs ≡ xs ++ cs → IsWord b zs n (λ a. number a xs)
is_wide b xs cs zs c n h l e f g =
    let w : length cs ≡ n - length xs = ap (λ (t : List Lit). length t) f ∙ length-replicate (n - length xs) c in
    let r : HasLits b cs = rw f (clause_below_replicate b.clauses.vars c (n - length xs) (has_constant b c false e)) in
    word_same n (λ a. number a xs) (is_join b xs cs zs h r g) (omega arith)
    (λ a o.
    let t : bit (lit_true a c) ≡ 0 = ap bit (known b c false a e o) in
    let z : number a cs ≡ 0 = ap (number a) f ∙ number_replicate a c (n - length xs) ∙ ap (λ (m : ℕ). m * (2 ^ (n - length xs) - 1)) t ∙ omega arith in
    rw z (omega arith))

signed_wide : (w n x p q k : ℕ) (v : Bool) → p ≡ 2 ^ w → q ≡ 2 ^ n → q ≡ p * k → 0 < k → x + p * (bit v * (k - 1)) ≡ (if v then x + (q - p) else x)
signed_wide w n x p q k true e f g h =
    let c : k ≡ (k - 1) + 1 = omega arith in
    let d : p * k ≡ p * ((k - 1) + 1) = ap (λ (m : ℕ). p * m) c in
    let i : bit true * (k - 1) ≡ k - 1 = omega arith in
    ap (λ (m : ℕ). x + p * m) i ∙ (let j : x + p * (k - 1) ≡ x + (q - p) = omega arith in j)
signed_wide w n x p q k false e f g h = omega arith

pub is_signed_wide : (b : Builder) (xs cs zs : List Lit) (c : Lit) (n i : ℕ) → HasLits b xs → i + 1 ≡ length xs → length xs ≤ n → HasLit b c → xs ≡ take i xs ++ c ∷ [] → cs ≡ replicate (n - length xs) c → zs ≡ xs ++ cs
    → IsWord b zs n (λ a. extend_signed (length xs) n (number a xs))
is_signed_wide b xs cs zs c n i h u l s e f g =
    let w : length cs ≡ n - length xs = ap (λ (t : List Lit). length t) f ∙ length-replicate (n - length xs) c in
    let r : HasLits b cs = rw f (clause_below_replicate b.clauses.vars c (n - length xs) s) in
    word_same n (λ a. extend_signed (length xs) n (number a xs)) (is_join b xs cs zs h r g) (omega arith)
    (λ a o.
    let z : number a cs ≡ bit (lit_true a c) * (2 ^ (n - length xs) - 1) = ap (number a) f ∙ number_replicate a c (n - length xs) in
    let m : length xs - 1 ≡ i = omega arith in
    let t : leb (2 ^ (length xs - 1)) (number a xs) ≡ lit_true a c = ap (λ (k : ℕ). leb (2 ^ k) (number a xs)) m ∙ top_bit a xs i c u e in
    let y : n ≡ length xs + (n - length xs) = omega arith in
    let p : 2 ^ n ≡ 2 ^ length xs * 2 ^ (n - length xs) = ap (λ (k : ℕ). 2 ^ k) y ∙ pow-add 2 (length xs) (n - length xs) in
    let x : n - (n - length xs) ≡ length xs = omega arith in
    ap (λ (k : ℕ). number a xs + 2 ^ length xs * k) z
    ∙ signed_wide (length xs) n (number a xs) (2 ^ length xs) (2 ^ n) (2 ^ (n - length xs)) (lit_true a c) refl refl p (pow_pos (n - length xs))
    ∙ ap (λ (v : Bool). if v then number a xs + (2 ^ n - 2 ^ length xs) else number a xs) (sym t)
    ∙ ap (λ (k : ℕ). if leb (2 ^ (length xs - 1)) (number a xs) then number a xs + (2 ^ n - 2 ^ k) else number a xs) (sym x))

-- the last of a list
pub with_last : (xs : List Lit) (i : ℕ) (d : Lit) → i + 1 ≡ length xs → xs ≡ take i xs ++ get_or xs i d ∷ []
with_last xs i d e =
    let l : i < length xs = omega arith in
    let f : take (i + 1) xs ≡ take i xs ++ (get_or xs i d ∷ []) = rw add-one (take-suc xs i d l) in
    sym (take_all xs (i + 1) e) ∙ f

-- ---- up
scaled_mod : (p q m : ℕ) → 0 < p → 0 < q → (p * m) % (p * q) ≡ p * (m % q)
scaled_mod p q m h k =
    let e : q * (m / q) + m % q ≡ m = div-add-mod m q in
    let e1 : p * (q * (m / q) + m % q) ≡ p * m = ap (λ (n : ℕ). p * n) e in
    let f : p * m ≡ p * (m % q) + (p * q) * (m / q) = omega arith in
    let l : m % q < q = mod_below m q k in
    let l2 : m % q + 1 ≤ q = omega arith in
    let l3 : p * (m % q + 1) ≤ p * q = mul-le-mul_left p l2 in
    let s : p * (m % q) < p * q = omega arith in
    ap (λ (n : ℕ). n % (p * q)) f ∙ add-mul-mod_self_left (p * (m % q)) (p * q) (m / q) ∙ mod-eq_of_lt s

pub is_raised : (b : Builder) (xs cs fs zs : List Lit) (c : Lit) (k : ℕ) → HasLits b xs → k ≤ length xs → c ≡ constant_lit false → cs ≡ replicate k c → fs ≡ take (length xs - k) xs → zs ≡ cs ++ fs
    → IsWord b zs (length xs) (λ a. wrap (length xs) (number a xs * 2 ^ k))
is_raised b xs cs fs zs c k h l e f q g =
    let w : length cs ≡ k = ap (λ (t : List Lit). length t) f ∙ length-replicate k c in
    let v : length fs ≡ length xs - k = ap (λ (t : List Lit). length t) q ∙ length-take-le (length xs - k) xs (omega arith) in
    let r : HasLits b cs = rw f (clause_below_replicate b.clauses.vars c k (has_constant b c false e)) in
    let s : HasLits b fs = rw q (clause_below_take b.clauses.vars xs (length xs - k) h) in
    word_same (length xs) (λ a. (number a xs * 2 ^ k) % 2 ^ length xs) (is_join b cs fs zs r s g) (omega arith)
    (λ a o.
    let t : bit (lit_true a c) ≡ 0 = ap bit (known b c false a e o) in
    let z : number a cs ≡ 0 = ap (number a) f ∙ number_replicate a c k ∙ ap (λ (m : ℕ). m * (2 ^ k - 1)) t ∙ omega arith in
    let n : number a fs ≡ number a xs % 2 ^ (length xs - k) = ap (number a) q ∙ number_front a xs (length xs - k) (omega arith) in
    let y : length xs ≡ k + (length xs - k) = omega arith in
    let p : 2 ^ length xs ≡ 2 ^ k * 2 ^ (length xs - k) = ap (λ (n : ℕ). 2 ^ n) y ∙ pow-add 2 k (length xs - k) in
    let u : number a xs * 2 ^ k ≡ 2 ^ k * number a xs = omega arith in
    let j : 2 ^ k * (number a xs % 2 ^ (length xs - k)) ≡ (number a xs * 2 ^ k) % 2 ^ length xs =
    sym (scaled_mod (2 ^ k) (2 ^ (length xs - k)) (number a xs) (pow_pos k) (pow_pos (length xs - k)))
    ∙ ap (λ (m : ℕ). m % (2 ^ k * 2 ^ (length xs - k))) (sym u) ∙ ap (λ (m : ℕ). (number a xs * 2 ^ k) % m) (sym p) in
    rw (z, w, n) ((let i : 0 + 2 ^ k * (number a xs % 2 ^ (length xs - k)) ≡ 2 ^ k * (number a xs % 2 ^ (length xs - k)) = omega arith in i) ∙ j))

-- ---- down
-- the complement of a number, above and below place k
complement : (m p k k1 q r t x : ℕ) → m ≡ p * k → k ≡ k1 + 1 → p ≡ t + q + 1 → x ≡ q * k + r → r < k → m - 1 - x ≡ t * k + (k1 - r)
complement m p k k1 q r t x e f g h l =
    let d : p * k ≡ (t + q + 1) * k = ap (λ (n : ℕ). n * k) g in
    omega arith

filled : (m p k k1 q t : ℕ) → m ≡ p * k → k ≡ k1 + 1 → p ≡ t + q + 1 → m - 1 - t ≡ q + p * k1
filled m p k k1 q t e f g =
    let d : p * k ≡ p * (k1 + 1) = ap (λ (n : ℕ). p * n) f in
    omega arith

pub down_filled : (w k x : ℕ) → k ≤ w → x < 2 ^ w → 2 ^ w - 1 - (2 ^ w - 1 - x) / 2 ^ k ≡ x / 2 ^ k + 2 ^ (w - k) * (2 ^ k - 1)
down_filled w k x h l =
    let y : w ≡ (w - k) + k = omega arith in
    let e : 2 ^ w ≡ 2 ^ (w - k) * 2 ^ k = ap (λ (n : ℕ). 2 ^ n) y ∙ pow-add 2 (w - k) k in
    let z : 0 < 2 ^ k = pow_pos k in
    let f : 2 ^ k ≡ (2 ^ k - 1) + 1 = omega arith in
    let s : x / 2 ^ k * 2 ^ k + x % 2 ^ k ≡ x = div-add-mod' x (2 ^ k) in
    let r : x % 2 ^ k < 2 ^ k = mod_below x (2 ^ k) z in
    let q : x / 2 ^ k < 2 ^ (w - k) = div_below x (2 ^ k) (2 ^ (w - k)) z (let n : x < 2 ^ (w - k) * 2 ^ k = omega arith in n) in
    let t : ℕ = 2 ^ (w - k) - 1 - x / 2 ^ k in
    let g : 2 ^ (w - k) ≡ t + x / 2 ^ k + 1 = omega arith in
    let c : 2 ^ w - 1 - x ≡ t * 2 ^ k + (2 ^ k - 1 - x % 2 ^ k) = complement (2 ^ w) (2 ^ (w - k)) (2 ^ k) (2 ^ k - 1) (x / 2 ^ k) (x % 2 ^ k) t x e f g (sym s) r in
    let u : 2 ^ k - 1 - x % 2 ^ k < 2 ^ k = omega arith in
    let d : (2 ^ w - 1 - x) / 2 ^ k ≡ t = ap (λ (n : ℕ). n / 2 ^ k) c ∙ shr_high t k (2 ^ k - 1 - x % 2 ^ k) u in
    ap (λ (n : ℕ). 2 ^ w - 1 - n) d ∙ filled (2 ^ w) (2 ^ (w - k)) (2 ^ k) (2 ^ k - 1) (x / 2 ^ k) t e f g

moved_by : (w k x : ℕ) (v : Bool) → k ≤ w → x < 2 ^ w → x / 2 ^ k + 2 ^ (w - k) * (bit v * (2 ^ k - 1)) ≡ moved_down w v x k
moved_by w k x true h l = (let e : x / 2 ^ k + 2 ^ (w - k) * (1 * (2 ^ k - 1)) ≡ x / 2 ^ k + 2 ^ (w - k) * (2 ^ k - 1) = omega arith in e) ∙ sym (down_filled w k x h l)
moved_by w k x false h l = omega arith

pub is_lowered : (b : Builder) (xs cs ds zs : List Lit) (c : Lit) (k : ℕ) → HasLits b xs → k ≤ length xs → HasLit b c → cs ≡ replicate k c → ds ≡ drop k xs → zs ≡ ds ++ cs
    → IsWord b zs (length xs) (λ a. moved_down (length xs) (lit_true a c) (number a xs) k)
is_lowered b xs cs ds zs c k h l s f q g =
    let w : length cs ≡ k = ap (λ (t : List Lit). length t) f ∙ length-replicate k c in
    let v : length ds ≡ length xs - k = ap (λ (t : List Lit). length t) q ∙ length-drop k xs in
    let r : HasLits b cs = rw f (clause_below_replicate b.clauses.vars c k s) in
    let j : HasLits b ds = rw q (clause_below_drop b.clauses.vars xs k h) in
    word_same (length xs) (λ a. moved_down (length xs) (lit_true a c) (number a xs) k) (is_join b ds cs zs j r g) (omega arith)
    (λ a o.
    let z : number a cs ≡ bit (lit_true a c) * (2 ^ k - 1) = ap (number a) f ∙ number_replicate a c k in
    let n : number a ds ≡ number a xs / 2 ^ k = ap (number a) q ∙ number_back a xs k l in
    rw (n, z, v) (moved_by (length xs) k (number a xs) (lit_true a c) l (number_below a xs)))

-- ---- the top bit turned round
turned : (p n m : ℕ) (v : Bool) → m < p → n ≡ m + p * bit v → m + p * bit (not v) ≡ (if v then n - p else n + p)
turned p n m true h e = omega arith
turned p n m false h e = omega arith

pub is_turned : (b : Builder) (xs zs : List Lit) (l k : Lit) (i : ℕ) → HasLits b xs → i + 1 ≡ length xs → HasLit b l → xs ≡ take i xs ++ l ∷ [] → k ≡ flipped l → zs ≡ take i xs ++ k ∷ []
    → IsWord b zs (length xs) (λ a. signed_rank (length xs) (number a xs))
is_turned b xs zs l k i h u s e f g =
    let j : i ≤ length xs = omega arith in
    let w : length (take i xs) ≡ i = length-take-le i xs j in
    let d : length (take i xs) + length (k ∷ []) ≡ length xs = rw w u in
    word_same (length xs) (λ a. signed_rank (length xs) (number a xs))
    (is_join b (take i xs) (k ∷ []) zs (clause_below_take b.clauses.vars xs i h) (one_below b.clauses.vars k (rw f s)) g) d
    (λ a o.
    let m : length xs - 1 ≡ i = omega arith in
    let t : leb (2 ^ (length xs - 1)) (number a xs) ≡ lit_true a l = ap (λ (n : ℕ). leb (2 ^ n) (number a xs)) m ∙ top_bit a xs i l u e in
    let y : lit_true a k ≡ not (lit_true a l) = ap (lit_true a) f ∙ flipped_true a l in
    let z : number a (k ∷ []) ≡ bit (not (lit_true a l)) = number_cons a k [] ∙ (let n = number_nil a in omega arith) ∙ ap bit y in
    let x : number a xs ≡ number a (take i xs) + 2 ^ length (take i xs) * bit (lit_true a l) = ap (number a) e ∙ number_append a (take i xs) l in
    let x1 : number a xs ≡ number a (take i xs) + 2 ^ i * bit (lit_true a l) = rw w at x in
    ap (λ (n : ℕ). number a (take i xs) + 2 ^ length (take i xs) * n) z ∙ ap (λ (n : ℕ). number a (take i xs) + 2 ^ n * bit (not (lit_true a l))) w
    ∙ turned (2 ^ i) (number a xs) (number a (take i xs)) (lit_true a l) (number_front_below a xs i j) x1
    ∙ ap (λ (v : Bool). if v then number a xs - 2 ^ i else number a xs + 2 ^ i) (sym t)
    ∙ ap (λ (n : ℕ). if leb (2 ^ (length xs - 1)) (number a xs) then number a xs - 2 ^ n else number a xs + 2 ^ n) (sym m))
