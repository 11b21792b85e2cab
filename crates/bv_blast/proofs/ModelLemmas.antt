-- The words that a model spells, bit by bit.
use Rattle.std.proofs.Common.{ℕ, ◌≡◌, ◌<◌, ◌≤◌, ◌+◌, ◌*◌, ◌^◌, ◌%◌, Bool, true, false, List, [], ◌∷◌, ◌++◌, length, take, map, get_or, ap, ◌∙◌, sym, arith, rules, Fits, w64}
use Rattle.std.proofs.lemmas.List.{length-map, length-take-le, map_more, get_or_read}
use Rattle.std.proofs.lemmas.Nat.{pow_below}
use Rattle.std.proofs.Math.Nat.{mod-eq_of_lt, pow-le-pow_right}
use mir.Val.{bool_byte}
use Rattle.refute_check.specs.declared.lit.Lit.{Lit}
use Rattle.refute_check.specs.Truth.{lit_true}
use Rattle.bit_gates.specs.Bits.{bit, number}
use Rattle.bit_gates.proofs.NumberLemmas.{number_append, number_below}
use Rattle.bv_blast.specs.Inputs.{positive, spelled, words_of}
use Rattle.bv_blast.proofs.FreeLemmas.{positive_true}

pub spelled_below : (a : ℕ → Bool) (vs : List ℕ) → spelled a vs < 2 ^ length vs
spelled_below a vs = rw (length-map vs positive) at (number_below a (map positive vs))

-- one bit more
spelled_more : (a : ℕ → Bool) (vs : List ℕ) (i : ℕ) → i < length vs → spelled a (take (i + 1) vs) ≡ spelled a (take i vs) + 2 ^ i * bit (a (get_or vs i 0))
spelled_more a vs i l =
    let v : ℕ = get_or vs i 0 in
    let ls : List Lit = map positive (take i vs) in
    let size : length ls ≡ i = length-map (take i vs) positive ∙ length-take-le i vs (omega arith) in
    ap (number a) (map_more positive vs i 0 l) ∙ number_append a ls (positive v) ∙ ap (λ (n : ℕ). number a ls + 2 ^ n * bit (lit_true a (positive v))) size
    ∙ ap (λ (t : Bool). number a ls + 2 ^ i * bit t) (positive_true a v)

-- a bit that is moved up within 64 bits
moved_bit : (b : Bool) (i : ℕ) → i < 64 → (bool_byte b * 2 ^ i) % 2 ^ 64 ≡ 2 ^ i * bit b
moved_bit true i h = let p : 2 ^ i < 2 ^ 64 = pow_below i 64 h in let e : 1 * 2 ^ i ≡ 2 ^ i = omega arith in rw e (mod-eq_of_lt p ∙ (omega arith))
moved_bit false i h = let e : 0 * 2 ^ i ≡ 0 = omega arith in rw e (omega arith)

pub more_bits : (a : ℕ → Bool) (vs : List ℕ) (i w : ℕ) (b : Bool) → w ≡ spelled a (take i vs) → b ≡ a (get_or vs i 0) → i < length vs → length vs ≤ 64 → w + (bool_byte b * 2 ^ i) % 2 ^ 64 ≡ spelled a (take (i + 1) vs)
more_bits a vs i w b e f l h =
    let m : (bool_byte b * 2 ^ i) % 2 ^ 64 ≡ 2 ^ i * bit b = moved_bit b i (omega arith) in
    rw (m, e, f) (sym (spelled_more a vs i l))

pub sum_fits : (a : ℕ → Bool) (vs : List ℕ) (i w : ℕ) (b : Bool) → w ≡ spelled a (take i vs) → b ≡ a (get_or vs i 0) → i < length vs → length vs ≤ 64 → Fits w64 (w + (bool_byte b * 2 ^ i) % 2 ^ 64)
sum_fits a vs i w b e f l h =
    let size : length (take (i + 1) vs) ≡ i + 1 = length-take-le (i + 1) vs (omega arith) in
    let below : spelled a (take (i + 1) vs) < 2 ^ (i + 1) = rw size at (spelled_below a (take (i + 1) vs)) in
    let q : i + 1 ≤ 64 = omega arith in
    let most : 2 ^ (i + 1) ≤ 2 ^ 64 = pow-le-pow_right {n = 2} (omega arith) q in
    let fits : w + (bool_byte b * 2 ^ i) % 2 ^ 64 < 2 ^ 64 = rw (more_bits a vs i w b e f l h) (omega arith) in
    search rules

pub words_more : (a : ℕ → Bool) (inputs : List (List ℕ)) (i w : ℕ) (vs : List ℕ) (us ws : List ℕ) → us ≡ words_of a (take i inputs) → w ≡ spelled a vs → vs ≡ get_or inputs i vs → ws ≡ us ++ w ∷ [] → i < length inputs
    → ws ≡ words_of a (take (i + 1) inputs)
words_more a inputs i w vs us ws e f g h l =
    let here : vs ≡ get_or inputs i [] = get_or_read inputs i vs l g [] in
    h ∙ ap (λ (xs : List ℕ). xs ++ w ∷ []) e ∙ ap (λ (x : ℕ). words_of a (take i inputs) ++ x ∷ []) (f ∙ ap (spelled a) here) ∙ sym (map_more (spelled a) inputs i [] l)
