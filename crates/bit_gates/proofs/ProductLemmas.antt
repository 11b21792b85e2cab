-- Products, a bit of the second factor at a time.
use Rattle.std.proofs.Common.{ℕ, ◌≡◌, ◌<◌, ◌+◌, ◌*◌, ◌^◌, ◌%◌, ◌/◌, Bool, true, false, if◌then◌else◌, List, length, take, replicate, get_or, refl, ap, ◌∙◌, sym, arith}
use Rattle.std.proofs.lemmas.Nat.{pow_pos}
use Rattle.std.proofs.Math.Nat.{mod-eq_of_lt, add-mul-mod_self_left, div-add-mod}
use Rattle.refute_check.specs.declared.lit.Lit.{Lit}
use Rattle.refute_check.specs.Truth.{lit_true}
use Rattle.data_value.specs.Words.{wrap}
use Rattle.bit_gates.specs.declared.builder.Builder.{Builder}
use Rattle.bit_gates.specs.Bits.{bit, number, constant_lit}
use Rattle.bit_gates.specs.Grows.{Grows}
use Rattle.bit_gates.specs.Meaning.{IsWord}
use Rattle.bit_gates.proofs.NumberLemmas.{number_nil, number_take}
use Rattle.bit_gates.proofs.WordLemmas.{word_same, take_all}
use Rattle.bit_gates.proofs.LayoutLemmas.{is_zeros}

-- the parts of a sum may be taken modulo p
mod_left : (p m n : ℕ) → (m % p + n) % p ≡ (m + n) % p
mod_left p m n =
    let e : p * (m / p) + m % p ≡ m = div-add-mod m p in
    let f : m + n ≡ (m % p + n) + p * (m / p) = omega arith in
    sym (ap (λ (k : ℕ). k % p) f ∙ add-mul-mod_self_left (m % p + n) p (m / p))

-- a partial product, where its bit is set or not
bit_part : (p q x u n : ℕ) (s : Bool) → n ≡ 0 → ((if s then (x * q) % p else n) + u) % p ≡ (u + x * (q * bit s)) % p
bit_part p q x u n true h = mod_left p (x * q) u ∙ ap (λ (k : ℕ). k % p) (let f : x * q + u ≡ u + x * (q * 1) = omega arith in f)
bit_part p q x u n false h = ap (λ (k : ℕ). k % p) (let f : n + u ≡ u + x * (q * 0) = omega arith in f)

-- ms is xs moved up, lent as m1, ns is zero, lent as n1, ps the choice, lent as p1, and ts the sum
pub is_partial : (b b1 b2 : Builder) (us xs ms m1 ns n1 ps p1 ts : List Lit) (s c : Lit) (k : ℕ)
    → IsWord b ms (length xs) (λ a. wrap (length xs) (number a xs * 2 ^ k)) → m1 ≡ ms → c ≡ constant_lit false → ns ≡ replicate (length xs) c → n1 ≡ ns
    → Grows b b1 → IsWord b1 ps (length m1) (λ a. if lit_true a s then number a m1 else number a n1) → p1 ≡ ps
    → Grows b1 b2 → IsWord b2 ts (length p1) (λ a. wrap (length p1) (number a p1 + number a us))
    → IsWord b2 ts (length xs) (λ a. wrap (length xs) (number a us + number a xs * (2 ^ k * bit (lit_true a s))))
is_partial b b1 b2 us xs ms m1 ns n1 ps p1 ts s c k m e1 e2 e3 e4 g1 p e5 g2 t =
    let lm : length m1 ≡ length xs = ap (λ (l : List Lit). length l) e1 ∙ m.width in
    let lp : length p1 ≡ length xs = ap (λ (l : List Lit). length l) e5 ∙ p.width ∙ lm in
    word_same (length xs) (λ a. wrap (length xs) (number a us + number a xs * (2 ^ k * bit (lit_true a s)))) t lp
    (λ a o.
    let o1 = g2.keeps a o in
    let o0 = g1.keeps a o1 in
    let vm : number a m1 ≡ (number a xs * 2 ^ k) % 2 ^ length xs = ap (number a) e1 ∙ m.means a o0 in
    let vn : number a n1 ≡ 0 = ap (number a) e4 ∙ (is_zeros b ns c (length xs) e2 e3).means a o0 in
    let vp : number a p1 ≡ (if lit_true a s then (number a xs * 2 ^ k) % 2 ^ length xs else number a n1) =
    ap (number a) e5 ∙ p.means a o1 ∙ ap (λ (n : ℕ). if lit_true a s then n else number a n1) vm in
    ap (λ (n : ℕ). (number a p1 + number a us) % 2 ^ n) lp ∙ ap (λ (n : ℕ). (n + number a us) % 2 ^ length xs) vp
    ∙ bit_part (2 ^ length xs) (2 ^ k) (number a xs) (number a us) (number a n1) (lit_true a s) vn)

pub product_none : (b : Builder) (xs ys zs : List Lit) (c : Lit) → c ≡ constant_lit false → zs ≡ replicate (length xs) c → IsWord b zs (length xs) (λ a. wrap (length xs) (number a xs * number a (take 0 ys)))
product_none b xs ys zs c e f = word_same (length xs) (λ a. wrap (length xs) (number a xs * number a (take 0 ys))) (is_zeros b zs c (length xs) e f) refl
    (λ a o.
    let e : number a xs * 0 ≡ 0 = omega arith in
    rw (number_nil a, e) (sym (mod-eq_of_lt (pow_pos (length xs)))))

pub product_more : (b b' : Builder) (xs ys zs z1 vs : List Lit) (i : ℕ) (y0 : Lit) → IsWord b zs (length xs) (λ a. wrap (length xs) (number a xs * number a (take i ys))) → z1 ≡ zs → Grows b b'
    → IsWord b' vs (length xs) (λ a. wrap (length xs) (number a z1 + number a xs * (2 ^ i * bit (lit_true a (get_or ys i y0))))) → i < length ys
    → IsWord b' vs (length xs) (λ a. wrap (length xs) (number a xs * number a (take (i + 1) ys)))
product_more b b' xs ys zs z1 vs i y0 h e g v l = word_same (length xs) (λ a. wrap (length xs) (number a xs * number a (take (i + 1) ys))) v refl
    (λ a o.
    let z : number a z1 ≡ (number a xs * number a (take i ys)) % 2 ^ length xs = ap (number a) e ∙ h.means a (g.keeps a o) in
    let n : number a (take (i + 1) ys) ≡ number a (take i ys) + 2 ^ i * bit (lit_true a (get_or ys i y0)) = number_take a ys i y0 l in
    let q : number a xs * number a (take i ys) + number a xs * (2 ^ i * bit (lit_true a (get_or ys i y0))) ≡ number a xs * number a (take (i + 1) ys) = rw n (omega arith) in
    ap (λ (m : ℕ). (m + number a xs * (2 ^ i * bit (lit_true a (get_or ys i y0)))) % 2 ^ length xs) z
    ∙ mod_left (2 ^ length xs) (number a xs * number a (take i ys)) (number a xs * (2 ^ i * bit (lit_true a (get_or ys i y0))))
    ∙ ap (λ (m : ℕ). m % 2 ^ length xs) q)

pub product_all : (b : Builder) (xs ys zs : List Lit) (i : ℕ) → i ≡ length ys → IsWord b zs (length xs) (λ a. wrap (length xs) (number a xs * number a (take i ys))) → IsWord b zs (length xs) (λ a. wrap (length xs) (number a xs * number a ys))
product_all b xs ys zs i e h = word_same (length xs) (λ a. wrap (length xs) (number a xs * number a ys)) h refl (λ a o. ap (λ (l : List Lit). (number a xs * number a l) % 2 ^ length xs) (take_all ys i e))
