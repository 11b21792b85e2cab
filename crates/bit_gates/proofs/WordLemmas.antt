-- Words: the numbers that parts of them spell, and words that grow.
use Rattle.std.proofs.Common.{ℕ, zero, suc, ◌≡◌, ◌<◌, ◌≤◌, ◌+◌, ◌-◌, ◌*◌, ◌^◌, ◌%◌, ◌/◌, Bool, true, false, not, List, [], ◌∷◌, ◌++◌, length, take, drop, replicate, map, leb, refl, ap, ◌∙◌, sym, arith, length-append, subst}
use Rattle.std.proofs.Math.Seq.{take-length}
use Rattle.std.proofs.lemmas.List.{length-take-le, take-append-drop}
use Rattle.std.proofs.lemmas.Nat.{pow_pos, shr_high}
use Rattle.std.proofs.lemmas.Bool.{le-leb, lt-leb}
use Rattle.std.proofs.Math.Nat.{add-mul-mod_self_left, mod-eq_of_lt}
use Rattle.refute_check.specs.declared.lit.Lit.{Lit}
use Rattle.refute_check.specs.Truth.{lit_true, flipped, clause_below}
use Rattle.refute_check.proofs.TruthLemmas.{flipped_true}
use Rattle.bit_gates.specs.declared.builder.Builder.{Builder}
use Rattle.bit_gates.specs.Bits.{bit, number}
use Rattle.bit_gates.specs.Grows.{Grows, Holds}
use Rattle.bit_gates.specs.Meaning.{HasLit, HasLits, IsWord}
use Rattle.bit_gates.proofs.RangeLemmas.{clause_below_more, clause_below_append, one_below}
use Rattle.bit_gates.proofs.NumberLemmas.{number_nil, number_cons, number_join, number_append, number_below, doubled}

-- ---- the same word
pub word_kept : {b b' : Builder} {zs : List Lit} {w : ℕ} {f : (ℕ → Bool) → ℕ} → IsWord b zs w f → Grows b b' → IsWord b' zs w f
word_kept {b} {b'} {zs} {w} {f} h g = record {
  in_range = clause_below_more b.clauses.vars b'.clauses.vars zs g.grows h.in_range;
  width = h.width;
  means = λ a o. h.means a (g.keeps a o);
}

pub word_same : {b : Builder} {zs : List Lit} {w : ℕ} {f : (ℕ → Bool) → ℕ} (v : ℕ) (g : (ℕ → Bool) → ℕ) → IsWord b zs w f → w ≡ v → ((a : ℕ → Bool) → Holds b a → f a ≡ g a) → IsWord b zs v g
word_same v g h e k = record {
  in_range = h.in_range;
  width = h.width ∙ e;
  means = λ a o. h.means a o ∙ k a o;
}

pub word_lent : {b : Builder} {zs : List Lit} {w : ℕ} {f : (ℕ → Bool) → ℕ} (ys : List Lit) → IsWord b zs w f → ys ≡ zs → IsWord b ys w f
word_lent {b} {zs} {w} {f} ys h e = subst (λ (l : List Lit). IsWord b l w f) (sym e) h

-- one bit more on top
pub word_push : {b : Builder} {zs : List Lit} {w : ℕ} {f : (ℕ → Bool) → ℕ} (ys : List Lit) (l : Lit) (v : ℕ) (g : (ℕ → Bool) → ℕ)
    → IsWord b zs w f → ys ≡ zs ++ l ∷ [] → v ≡ w + 1 → HasLit b l → ((a : ℕ → Bool) → Holds b a → f a + 2 ^ w * bit (lit_true a l) ≡ g a) → IsWord b ys v g
word_push {b} {zs} {w} {f} ys l v g h e q r k = record {
  in_range = rw e (clause_below_append b.clauses.vars zs (l ∷ []) h.in_range (one_below b.clauses.vars l r));
  width = rw (e, q) (length-append zs (l ∷ []) ∙ ap (λ (n : ℕ). n + 1) h.width);
  means = λ a o.
      let n : number a ys ≡ number a zs + 2 ^ length zs * bit (lit_true a l) = ap (number a) e ∙ number_append a zs l in
      n ∙ ap (λ (m : ℕ). m + 2 ^ length zs * bit (lit_true a l)) (h.means a o) ∙ ap (λ (m : ℕ). f a + 2 ^ m * bit (lit_true a l)) h.width ∙ k a o;
}

pub word_none : (b : Builder) (zs : List Lit) (f : (ℕ → Bool) → ℕ) → zs ≡ [] → ((a : ℕ → Bool) → f a ≡ 0) → IsWord b zs 0 f
unfolding clause_below
word_none b zs f e k = record {
  in_range = ap (clause_below b.clauses.vars) e;
  width = ap (λ (l : List Lit). length l) e;
  means = λ a o. ap (number a) e ∙ number_nil a ∙ sym (k a);
}

-- ---- parts of words
pub is_join : (b : Builder) (xs ys zs : List Lit) → HasLits b xs → HasLits b ys → zs ≡ xs ++ ys → IsWord b zs (length xs + length ys) (λ a. number a xs + 2 ^ length xs * number a ys)
is_join b xs ys zs h k e = record {
  in_range = rw e (clause_below_append b.clauses.vars xs ys h k);
  width = ap (λ (l : List Lit). length l) e ∙ length-append xs ys;
  means = λ a o. ap (number a) e ∙ number_join a xs ys;
}

number_parts : (a : ℕ → Bool) (xs : List Lit) (i : ℕ) → i ≤ length xs → number a xs ≡ number a (take i xs) + 2 ^ i * number a (drop i xs)
number_parts a xs i h =
    ap (number a) (sym (take-append-drop i xs)) ∙ number_join a (take i xs) (drop i xs) ∙ ap (λ (n : ℕ). number a (take i xs) + 2 ^ n * number a (drop i xs)) (length-take-le i xs h)

pub number_front_below : (a : ℕ → Bool) (xs : List Lit) (i : ℕ) → i ≤ length xs → number a (take i xs) < 2 ^ i
number_front_below a xs i h =
    let l : length (take i xs) ≡ i = length-take-le i xs h in
    rw l at (number_below a (take i xs))

pub number_front : (a : ℕ → Bool) (xs : List Lit) (i : ℕ) → i ≤ length xs → number a (take i xs) ≡ number a xs % 2 ^ i
number_front a xs i h = sym (ap (λ (n : ℕ). n % 2 ^ i) (number_parts a xs i h) ∙ add-mul-mod_self_left _ _ _ ∙ mod-eq_of_lt (number_front_below a xs i h))

pub number_back : (a : ℕ → Bool) (xs : List Lit) (i : ℕ) → i ≤ length xs → number a (drop i xs) ≡ number a xs / 2 ^ i
number_back a xs i h =
    let p = number_parts a xs i h in
    let e : number a xs ≡ number a (drop i xs) * 2 ^ i + number a (take i xs) = omega arith in
    sym (ap (λ (n : ℕ). n / 2 ^ i) e ∙ shr_high (number a (drop i xs)) i (number a (take i xs)) (number_front_below a xs i h))

copies_more : (p n : ℕ) (v : Bool) → 0 < p → n ≡ bit v * (p - 1) → bit v + 2 * n ≡ bit v * (2 * p - 1)
copies_more p n true h e = omega arith
copies_more p n false h e = omega arith

pub number_replicate : (a : ℕ → Bool) (l : Lit) (k : ℕ) → number a (replicate k l) ≡ bit (lit_true a l) * (2 ^ k - 1)
number_replicate a l zero = number_nil a ∙ omega arith
number_replicate a l (suc k) =
    let d : 2 ^ suc k ≡ 2 * 2 ^ k = doubled k _ refl in
    number_cons a l (replicate k l) ∙ copies_more (2 ^ k) (number a (replicate k l)) (lit_true a l) (pow_pos k) (number_replicate a l k) ∙ ap (λ (n : ℕ). bit (lit_true a l) * (n - 1)) (sym d)

pub take_all : (xs : List Lit) (i : ℕ) → i ≡ length xs → take i xs ≡ xs
take_all xs i e = rw e (take-length xs)

-- ---- the top bit
top_set : (p n m : ℕ) (v : Bool) → m < p → n ≡ m + p * bit v → leb p n ≡ v
top_set p n m true h e = le-leb p n (omega arith)
top_set p n m false h e = lt-leb p n (omega arith)

pub top_bit : (a : ℕ → Bool) (xs : List Lit) (i : ℕ) (l : Lit) → i + 1 ≡ length xs → xs ≡ take i xs ++ l ∷ [] → leb (2 ^ i) (number a xs) ≡ lit_true a l
top_bit a xs i l e f =
    let g : i ≤ length xs = omega arith in
    let n : number a xs ≡ number a (take i xs) + 2 ^ length (take i xs) * bit (lit_true a l) = ap (number a) f ∙ number_append a (take i xs) l in
    let w : length (take i xs) ≡ i = length-take-le i xs g in
    let m : number a xs ≡ number a (take i xs) + 2 ^ i * bit (lit_true a l) = rw w at n in
    top_set (2 ^ i) (number a xs) (number a (take i xs)) (lit_true a l) (number_front_below a xs i g) m

-- ---- opposites
bit_not : (b : Bool) → bit (not b) + bit b ≡ 1
bit_not true = refl
bit_not false = refl

pub number_flips : (a : ℕ → Bool) (xs : List Lit) → number a (map flipped xs) + number a xs + 1 ≡ 2 ^ length xs
number_flips a [] = rw (number_nil a) refl
number_flips a (x ∷ xs) =
    let h = number_flips a xs in
    let d : 2 ^ suc (length xs) ≡ 2 * 2 ^ length xs = doubled (length xs) _ refl in
    let n = number_cons a (flipped x) (map flipped xs) in
    let m = number_cons a x xs in
    let f : bit (lit_true a (flipped x)) + bit (lit_true a x) ≡ 1 = ap (λ (z : Bool). bit z + bit (lit_true a x)) (flipped_true a x) ∙ bit_not (lit_true a x) in
    omega arith
