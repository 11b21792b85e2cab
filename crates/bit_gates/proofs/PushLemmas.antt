-- Words whose bits are made one after another.
use Rattle.std.proofs.Common.{ℕ, ◌≡◌, ◌<◌, ◌+◌, ◌*◌, ◌^◌, ◌==◌, inl, inr, Bool, true, false, not, ◌&&◌, if◌then◌else◌, eqb, List, [], ◌∷◌, ◌++◌, length, take, get_or, refl, ap, ◌∙◌, sym, arith}
use Rattle.std.proofs.Math.Bool.{and-true, and-false}
use Rattle.std.proofs.lemmas.Bool.{cases_eq, eq-eqb, ne_eqb}
use Rattle.std.specs.Int.Bits.{and_block, or_block, xor_block}
use Rattle.refute_check.specs.declared.lit.Lit.{Lit}
use Rattle.refute_check.specs.Truth.{lit_true, flipped}
use Rattle.refute_check.proofs.TruthLemmas.{flipped_true}
use Rattle.bit_gates.specs.declared.builder.Builder.{Builder}
use Rattle.bit_gates.specs.declared.bitwise.Gate.{Gate}
use Rattle.bit_gates.specs.declared.bitwise.Gate.TheVariants.{And, Or, Xor}
use Rattle.bit_gates.specs.Bits.{bit, number, exclusive_or, constant_lit}
use Rattle.bit_gates.specs.Gates.{gate_value, gate_number}
use Rattle.bit_gates.specs.Grows.{Grows}
use Rattle.bit_gates.specs.Meaning.{IsBit, IsWord}
use Rattle.bit_gates.proofs.NumberLemmas.{number_nil, number_take}
use Rattle.bit_gates.proofs.KnownLemmas.{known, has_constant}
use Rattle.bit_gates.proofs.WordLemmas.{word_same, word_kept, word_push, word_none, number_front_below, take_all}

-- ---- gates on each bit
gate_zero : (g : Gate) → gate_number g 0 0 ≡ 0
gate_zero And = refl
gate_zero Or = refl
gate_zero Xor = refl

gate_bit : (g : Gate) (u v : Bool) → gate_number g (bit u) (bit v) ≡ bit (gate_value g u v)
gate_bit And true true = refl
gate_bit And true false = refl
gate_bit And false true = refl
gate_bit And false false = refl
gate_bit Or true true = refl
gate_bit Or true false = refl
gate_bit Or false true = refl
gate_bit Or false false = refl
gate_bit Xor true true = refl
gate_bit Xor true false = refl
gate_bit Xor false true = refl
gate_bit Xor false false = refl

-- a gate's number, above and below place k
gate_block : (g : Gate) (k a b r s : ℕ) → r < 2 ^ k → s < 2 ^ k → gate_number g (a * 2 ^ k + r) (b * 2 ^ k + s) ≡ gate_number g a b * 2 ^ k + gate_number g r s
gate_block And k a b r s h l = and_block k a b r s h l
gate_block Or k a b r s h l = or_block k a b r s h l
gate_block Xor k a b r s h l = xor_block k a b r s h l

gate_digit : (g : Gate) (k x y x' y' : ℕ) (u v : Bool) → x < 2 ^ k → y < 2 ^ k → x' ≡ x + 2 ^ k * bit u → y' ≡ y + 2 ^ k * bit v → gate_number g x y + 2 ^ k * bit (gate_value g u v) ≡ gate_number g x' y'
gate_digit g k x y x' y' u v h l e f =
    let e1 : x' ≡ bit u * 2 ^ k + x = omega arith in
    let f1 : y' ≡ bit v * 2 ^ k + y = omega arith in
    let b : gate_number g (bit u * 2 ^ k + x) (bit v * 2 ^ k + y) ≡ gate_number g (bit u) (bit v) * 2 ^ k + gate_number g x y = gate_block g k (bit u) (bit v) x y h l in
    let d : gate_number g (bit u) (bit v) ≡ bit (gate_value g u v) = gate_bit g u v in
    let c : gate_number g x y + 2 ^ k * bit (gate_value g u v) ≡ bit (gate_value g u v) * 2 ^ k + gate_number g x y = omega arith in
    rw (e1, f1, b, d) c

pub gates_none : (b : Builder) (g : Gate) (xs ys zs : List Lit) → zs ≡ [] → IsWord b zs 0 (λ a. gate_number g (number a (take 0 xs)) (number a (take 0 ys)))
gates_none b g xs ys zs e = word_none b zs (λ a. gate_number g (number a (take 0 xs)) (number a (take 0 ys))) e (λ a. rw (number_nil a) (gate_zero g))

pub gates_more : (b b' : Builder) (g : Gate) (xs ys zs vs : List Lit) (r x0 : Lit) (i : ℕ) → IsWord b zs i (λ a. gate_number g (number a (take i xs)) (number a (take i ys))) → Grows b b'
    → IsBit b' r (λ a. gate_value g (lit_true a (get_or xs i x0)) (lit_true a (get_or ys i x0))) → vs ≡ zs ++ r ∷ [] → i < length xs → length ys ≡ length xs
    → IsWord b' vs (i + 1) (λ a. gate_number g (number a (take (i + 1) xs)) (number a (take (i + 1) ys)))
gates_more b b' g xs ys zs vs r x0 i h k t e l w = word_push vs r (i + 1) (λ a. gate_number g (number a (take (i + 1) xs)) (number a (take (i + 1) ys))) (word_kept h k) e refl t.in_range
    (λ a o.
    let ly : i < length ys = omega arith in
    ap (λ (z : Bool). gate_number g (number a (take i xs)) (number a (take i ys)) + 2 ^ i * bit z) (t.means a o)
    ∙ gate_digit g i (number a (take i xs)) (number a (take i ys)) (number a (take (i + 1) xs)) (number a (take (i + 1) ys)) (lit_true a (get_or xs i x0)) (lit_true a (get_or ys i x0))
    (number_front_below a xs i (omega arith)) (number_front_below a ys i (omega arith)) (number_take a xs i x0 l) (number_take a ys i x0 ly))

pub gates_all : (b : Builder) (g : Gate) (xs ys zs : List Lit) (i : ℕ) → i ≡ length xs → length ys ≡ length xs → IsWord b zs i (λ a. gate_number g (number a (take i xs)) (number a (take i ys)))
    → IsWord b zs (length xs) (λ a. gate_number g (number a xs) (number a ys))
gates_all b g xs ys zs i e w h = word_same (length xs) (λ a. gate_number g (number a xs) (number a ys)) h e
    (λ a o. ap (λ (z : List Lit). gate_number g (number a z) (number a (take i ys))) (take_all xs i e) ∙ ap (λ (z : List Lit). gate_number g (number a xs) (number a z)) (take_all ys i (omega arith)))

-- ---- choices
chosen : (p x y x' y' : ℕ) (u v s : Bool) → x' ≡ x + p * bit u → y' ≡ y + p * bit v → (if s then x else y) + p * bit (if s then u else v) ≡ (if s then x' else y')
chosen p x y x' y' u v true e f = sym e
chosen p x y x' y' u v false e f = sym f

same_both : (s : Bool) (n : ℕ) → (if s then n else n) ≡ n
same_both true n = refl
same_both false n = refl

pub chosen_none : (b : Builder) (xs ys zs : List Lit) (s : Lit) → zs ≡ [] → IsWord b zs 0 (λ a. if lit_true a s then number a (take 0 xs) else number a (take 0 ys))
chosen_none b xs ys zs s e = word_none b zs _ e (λ a. rw (number_nil a) (same_both (lit_true a s) 0))

pub chosen_more : (b b' : Builder) (xs ys zs vs : List Lit) (s r x0 : Lit) (i : ℕ) → IsWord b zs i (λ a. if lit_true a s then number a (take i xs) else number a (take i ys)) → Grows b b'
    → IsBit b' r (λ a. if lit_true a s then lit_true a (get_or xs i x0) else lit_true a (get_or ys i x0)) → vs ≡ zs ++ r ∷ [] → i < length xs → length ys ≡ length xs
    → IsWord b' vs (i + 1) (λ a. if lit_true a s then number a (take (i + 1) xs) else number a (take (i + 1) ys))
chosen_more b b' xs ys zs vs s r x0 i h g t e l w = word_push vs r (i + 1) _ (word_kept h g) e refl t.in_range
    (λ a o.
    let ly : i < length ys = omega arith in
    ap (λ (z : Bool). (if lit_true a s then number a (take i xs) else number a (take i ys)) + 2 ^ i * bit z) (t.means a o)
    ∙ chosen (2 ^ i) _ _ _ _ _ _ (lit_true a s) (number_take a xs i x0 l) (number_take a ys i x0 ly))

pub chosen_all : (b : Builder) (xs ys zs : List Lit) (s : Lit) (i : ℕ) → i ≡ length xs → length ys ≡ length xs → IsWord b zs i (λ a. if lit_true a s then number a (take i xs) else number a (take i ys))
    → IsWord b zs (length xs) (λ a. if lit_true a s then number a xs else number a ys)
chosen_all b xs ys zs s i e w h = word_same (length xs) _ h e
    (λ a o. ap (λ (z : List Lit). if lit_true a s then number a z else number a (take i ys)) (take_all xs i e) ∙ ap (λ (z : List Lit). if lit_true a s then number a xs else number a z) (take_all ys i (omega arith)))

-- ---- equality
eqb_same : (m n m' n' : ℕ) → (m ≡ n → m' ≡ n') → (m' ≡ n' → m ≡ n) → eqb m n ≡ eqb m' n'
eqb_same m n m' n' f g = elim (cases_eq m n) [ inl e ↦ eq-eqb m n e ∙ sym (eq-eqb m' n' (f e)) | inr e ↦ ne_eqb m n e ∙ sym (ne_eqb m' n' (λ h. e (g h))) ]

eq_digit : (p x y : ℕ) (u v : Bool) → x < p → y < p → (eqb x y && not (exclusive_or u v)) ≡ eqb (x + p * bit u) (y + p * bit v)
eq_digit p x y true true h k = and-true _ ∙ eqb_same x y (x + p * 1) (y + p * 1) (λ e. omega arith) (λ e. omega arith)
eq_digit p x y true false h k = and-false _ ∙ sym (ne_eqb (x + p * 1) (y + p * 0) (λ e. omega arith))
eq_digit p x y false true h k = and-false _ ∙ sym (ne_eqb (x + p * 0) (y + p * 1) (λ e. omega arith))
eq_digit p x y false false h k = and-true _ ∙ eqb_same x y (x + p * 0) (y + p * 0) (λ e. omega arith) (λ e. omega arith)

pub equal_none : (b : Builder) (xs ys : List Lit) (all : Lit) → all ≡ constant_lit true → IsBit b all (λ a. number a (take 0 xs) == number a (take 0 ys))
equal_none b xs ys all e = record {
  in_range = has_constant b all true e;
  means = λ a o. known b all true a e o ∙ rw (number_nil a) refl;
}

pub equal_more : (b b' b'' : Builder) (xs ys : List Lit) (all d f r x0 : Lit) (i : ℕ) → IsBit b all (λ a. number a (take i xs) == number a (take i ys))
    → Grows b b' → IsBit b' d (λ a. exclusive_or (lit_true a (get_or xs i x0)) (lit_true a (get_or ys i x0))) → f ≡ flipped d → Grows b' b'' → IsBit b'' r (λ a. lit_true a all && lit_true a f)
    → i < length xs → length ys ≡ length xs → IsBit b'' r (λ a. number a (take (i + 1) xs) == number a (take (i + 1) ys))
equal_more b b' b'' xs ys all d f r x0 i h g k e g' t l w = record {
  in_range = t.in_range;
  means = λ a o.
      let o' = g'.keeps a o in
      let m = h.means a (g.keeps a o') in
      let u : Bool = lit_true a (get_or xs i x0) in
      let v : Bool = lit_true a (get_or ys i x0) in
      let n : lit_true a f ≡ not (exclusive_or u v) = ap (lit_true a) e ∙ flipped_true a d ∙ ap not (k.means a o') in
      let ly : i < length ys = omega arith in
      let bx = number_front_below a xs i (omega arith) in
      let by = number_front_below a ys i (omega arith) in
      t.means a o
      ∙ ap (λ (z : Bool). z && lit_true a f) m ∙ ap (λ (z : Bool). eqb (number a (take i xs)) (number a (take i ys)) && z) n
      ∙ eq_digit (2 ^ i) (number a (take i xs)) (number a (take i ys)) u v bx by
      ∙ ap (λ (z : ℕ). eqb z (number a (take i ys) + 2 ^ i * bit v)) (sym (number_take a xs i x0 l))
      ∙ ap (λ (z : ℕ). eqb (number a (take (i + 1) xs)) z) (sym (number_take a ys i x0 ly));
}

pub equal_all : (b : Builder) (xs ys : List Lit) (all : Lit) (i : ℕ) → i ≡ length xs → length ys ≡ length xs → IsBit b all (λ a. number a (take i xs) == number a (take i ys))
    → IsBit b all (λ a. number a xs == number a ys)
equal_all b xs ys all i e w h = record {
  in_range = h.in_range;
  means = λ a o. h.means a o ∙ ap (λ (z : List Lit). eqb (number a z) (number a (take i ys))) (take_all xs i e) ∙ ap (λ (z : List Lit). eqb (number a xs) (number a z)) (take_all ys i (omega arith));
}
