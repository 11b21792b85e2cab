-- Shifts, a bit of the amount at a time.
use Rattle.std.proofs.Common.{ℕ, suc, ◌≡◌, ◌<◌, ◌≤◌, ◌+◌, ◌-◌, ◌*◌, ◌/◌, ◌^◌, ◌%◌, inl, inr, Bool, true, false, ◌||◌, ltb, leb, min, [], ◌∷◌, ◌++◌, if◌then◌else◌, List, length, take, get_or, refl, ap, ◌∙◌, sym, arith}
use Rattle.std.proofs.lemmas.Nat.{pow-add, pow_pos, mul-mod_first, div_below}
use Rattle.std.proofs.lemmas.Bool.{ltb-true, ltb-false, or_cases}
use Rattle.std.proofs.Math.Nat.{mul-mod_left, mod-eq_of_lt, div-div-eq-div-mul, div-le_self, pow-le-pow_right}
use Rattle.refute_check.specs.declared.lit.Lit.{Lit}
use Rattle.refute_check.specs.Truth.{lit_true}
use Rattle.data_value.specs.Words.{is_negative, shift_left, shift_right, shift_signed, top_ones}
use Rattle.bit_gates.specs.declared.builder.Builder.{Builder}
use Rattle.bit_gates.specs.declared.shifts.Direction.{Direction}
use Rattle.bit_gates.specs.declared.shifts.Direction.TheVariants.{Up, Down}
use Rattle.bit_gates.specs.Bits.{bit, number, constant_lit}
use Rattle.bit_gates.specs.Grows.{Grows, Holds}
use Rattle.bit_gates.specs.Meaning.{HasLit, HasLits, IsBit, IsWord}
use Rattle.bit_gates.specs.Moves.{moved_down, moved, HasFill}
use Rattle.bit_gates.proofs.RangeLemmas.{clause_below_more}
use Rattle.bit_gates.proofs.KnownLemmas.{by_cases, known, has_constant}
use Rattle.bit_gates.proofs.NumberLemmas.{number_nil, number_take, number_below, doubled}
use Rattle.bit_gates.proofs.WordLemmas.{word_same, take_all, top_bit}
use Rattle.bit_gates.proofs.LayoutLemmas.{down_filled}

-- ---- moves
-- w copies of the factor 2 leave nothing
power_gone : (w m x : ℕ) → w ≤ m → (x * 2 ^ m) % 2 ^ w ≡ 0
power_gone w m x h =
    let e : m ≡ (m - w) + w = omega arith in
    let p : 2 ^ m ≡ 2 ^ (m - w) * 2 ^ w = ap (λ (n : ℕ). 2 ^ n) e ∙ pow-add 2 (m - w) w in
    let q : x * 2 ^ m ≡ (x * 2 ^ (m - w)) * 2 ^ w = ap (λ (n : ℕ). x * n) p ∙ (omega arith) in
    ap (λ (n : ℕ). n % 2 ^ w) q ∙ mul-mod_left (x * 2 ^ (m - w)) (2 ^ w)

none_left : (w n x : ℕ) → x < 2 ^ w → w ≤ n → x / 2 ^ n ≡ 0
none_left w n x h l =
    let p : 2 ^ w ≤ 2 ^ n = pow-le-pow_right {n = 2} (omega arith) l in
    let d : x / 2 ^ n < 1 = div_below x (2 ^ n) 1 (pow_pos n) (omega arith) in
    omega arith

divided_twice : (x n m : ℕ) → x / 2 ^ n / 2 ^ m ≡ x / 2 ^ (n + m)
divided_twice x n m = div-div-eq-div-mul x (2 ^ n) (2 ^ m) ∙ ap (λ (k : ℕ). x / k) (sym (pow-add 2 n m))

complement_twice : (p c : ℕ) → c < p → p - 1 - (p - 1 - c) ≡ c
complement_twice p c h = omega arith

down_none : (w x : ℕ) (v : Bool) → x < 2 ^ w → moved_down w v x 0 ≡ x
down_none w x true h =
    let e : (2 ^ w - 1 - x) / 1 ≡ 2 ^ w - 1 - x = omega arith in
    ap (λ (n : ℕ). 2 ^ w - 1 - n) e ∙ complement_twice (2 ^ w) x h
down_none w x false h = omega arith

down_twice : (w x n m : ℕ) (v : Bool) → moved_down w v (moved_down w v x n) m ≡ moved_down w v x (n + m)
down_twice w x n m true =
    let c : ℕ = 2 ^ w - 1 - x in
    let l : c / 2 ^ n ≤ c = div-le_self c (2 ^ n) in
    let z : 0 < 2 ^ w = pow_pos w in
    let t : 2 ^ w - 1 - (2 ^ w - 1 - c / 2 ^ n) ≡ c / 2 ^ n = complement_twice (2 ^ w) (c / 2 ^ n) (omega arith) in
    ap (λ (k : ℕ). 2 ^ w - 1 - k / 2 ^ m) t ∙ ap (λ (k : ℕ). 2 ^ w - 1 - k) (divided_twice c n m)
down_twice w x n m false = divided_twice x n m

down_all : (w x n : ℕ) (v : Bool) → x < 2 ^ w → w ≤ n → moved_down w v x n ≡ moved_down w v x w
down_all w x n true h l =
    let z : 0 < 2 ^ w = pow_pos w in
    let c : 2 ^ w - 1 - x < 2 ^ w = omega arith in
    ap (λ (k : ℕ). 2 ^ w - 1 - k) (none_left w n (2 ^ w - 1 - x) c l ∙ sym (none_left w w (2 ^ w - 1 - x) c (omega arith)))
down_all w x n false h l = none_left w n x h l ∙ sym (none_left w w x h (omega arith))

-- a word moved by nothing
moved_none : (a : ℕ → Bool) (d : Direction) (w x : ℕ) → x < 2 ^ w → moved a d w x 0 ≡ x
moved_none a Up w x h = (let e : x * 1 ≡ x = omega arith in ap (λ (n : ℕ). n % 2 ^ w) e) ∙ mod-eq_of_lt h
moved_none a (Down f) w x h = down_none w x (lit_true a f) h

-- a word moved twice
moved_twice : (a : ℕ → Bool) (d : Direction) (w x n m : ℕ) → moved a d w (moved a d w x n) m ≡ moved a d w x (n + m)
moved_twice a Up w x n m =
    let p : 2 ^ (n + m) ≡ 2 ^ n * 2 ^ m = pow-add 2 n m in
    let q : x * 2 ^ n * 2 ^ m ≡ x * 2 ^ (n + m) = rw p (omega arith) in
    mul-mod_first (x * 2 ^ n) (2 ^ m) (2 ^ w) ∙ ap (λ (k : ℕ). k % 2 ^ w) q
moved_twice a (Down f) w x n m = down_twice w x n m (lit_true a f)

-- a word moved out
moved_all : (a : ℕ → Bool) (d : Direction) (w x n : ℕ) → x < 2 ^ w → w ≤ n → moved a d w x n ≡ moved a d w x w
moved_all a Up w x n h l = power_gone w n x l ∙ sym (power_gone w w x (omega arith))
moved_all a (Down f) w x n h l = down_all w x n (lit_true a f) h l

-- ---- steps
-- a step is the smaller of 2^j and the width w
pub record IsStep (step j w : ℕ) : Type 0 where
  pub within : step ≤ w
  pub power : step < w → step ≡ 2 ^ j
  pub full : w ≤ step → w ≤ 2 ^ j

next_power : (j : ℕ) → 2 ^ (j + 1) ≡ 2 * 2 ^ j
next_power j = let e : j + 1 ≡ suc j = omega arith in ap (λ (n : ℕ). 2 ^ n) e ∙ doubled j (2 ^ j) refl

pub step_first : (s w : ℕ) → s ≡ min w 1 → IsStep s 0 w
step_first s w e = record { within = omega arith; power = λ q. omega arith; full = λ q. omega arith }

pub step_next : (s t j w : ℕ) → t ≡ min w (2 * s) → IsStep s j w → s < w → IsStep t (j + 1) w
step_next s t j w q h l =
    let e : s ≡ 2 ^ j = h.power l in
    let p = next_power j in
    record { within = omega arith; power = λ k. omega arith; full = λ k. omega arith }

pub step_stays : (s j w : ℕ) → IsStep s j w → w ≤ s → IsStep s (j + 1) w
step_stays s j w h l =
    let e : w ≤ 2 ^ j = h.full l in
    let p = next_power j in
    record { within = h.within; power = λ q. absurd (omega arith); full = λ q. omega arith }

-- ---- the loop
-- zs is xs moved by the first j bits of ys, but where l is true: there these bits move out all of it
pub record IsMoving (b : Builder) (d : Direction) (xs ys zs : List Lit) (l : Lit) (j : ℕ) : Type 0 where
  pub in_range : HasLits b zs
  pub width : length zs ≡ length xs
  pub flag : HasLit b l
  pub short : (a : ℕ → Bool) → Holds b a → lit_true a l ≡ false → number a zs ≡ moved a d (length xs) (number a xs) (number a (take j ys))
  pub far : (a : ℕ → Bool) → Holds b a → lit_true a l ≡ true → length xs ≤ number a (take j ys)

pub fill_kept : (b b' : Builder) (d : Direction) → Grows b b' → HasFill b d → HasFill b' d
fill_kept b b' Up g h = tt
fill_kept b b' (Down f) g h = let l : f.var < b.clauses.vars = h in let m : b.clauses.vars ≤ b'.clauses.vars = g.grows in omega arith

pub moving_none : (b : Builder) (d : Direction) (xs ys zs : List Lit) (l : Lit) → IsWord b zs (length xs) (λ a. moved a d (length xs) (number a xs) 0) → l ≡ constant_lit false → IsMoving b d xs ys zs l 0
moving_none b d xs ys zs l h e = record {
  in_range = h.in_range;
  width = h.width;
  flag = has_constant b l false e;
  short = λ a o f. h.means a o ∙ ap (λ (n : ℕ). moved a d (length xs) (number a xs) n) (sym (number_nil a));
  far = λ a o f. let g : false ≡ true = sym (known b l false a e o) ∙ f in cc;
}

-- one bit more, that moves the word by a step where it is set
chosen_move : (m z x n p y : ℕ) (u : Bool) (f : ℕ → ℕ) → z ≡ f n → m ≡ f (n + p) → y ≡ n + p * bit u → (if u then m else z) ≡ f y
chosen_move m z x n p y true f e g h = g ∙ ap f (let i : n + p ≡ y = omega arith in i)
chosen_move m z x n p y false f e g h = e ∙ ap f (let i : n ≡ y = omega arith in i)

-- zs is the word so far, lent as z1 and z2, ms that word moved by a step, lent as m1, and vs the choice
pub moving_step : (b b' : Builder) (d : Direction) (xs ys zs z1 z2 ms m1 vs : List Lit) (l y0 : Lit) (s j : ℕ) → IsMoving b d xs ys zs l j → IsStep s j (length xs) → s < length xs
    → z1 ≡ zs → z2 ≡ zs → m1 ≡ ms → IsWord b ms (length z1) (λ a. moved a d (length z1) (number a z1) s)
    → Grows b b' → IsWord b' vs (length m1) (λ a. if lit_true a (get_or ys j y0) then number a m1 else number a z2) → j < length ys → IsMoving b' d xs ys vs l (j + 1)
moving_step b b' d xs ys zs z1 z2 ms m1 vs l y0 s j h t k e1 e2 e3 m g v r =
    let lz : length z1 ≡ length xs = ap (λ (q : List Lit). length q) e1 ∙ h.width in
    let lm : length m1 ≡ length xs = ap (λ (q : List Lit). length q) e3 ∙ m.width ∙ lz in
    record {
      in_range = v.in_range;
      width = v.width ∙ lm;
      flag = let f : l.var < b.clauses.vars = h.flag in let n : b.clauses.vars ≤ b'.clauses.vars = g.grows in omega arith;
      short = λ a o f.
          let o1 = g.keeps a o in
          let z : number a zs ≡ moved a d (length xs) (number a xs) (number a (take j ys)) = h.short a o1 f in
          let c : number a m1 ≡ moved a d (length xs) (number a xs) (number a (take j ys) + 2 ^ j) =
          ap (number a) e3 ∙ m.means a o1 ∙ ap (λ (n : ℕ). moved a d n (number a z1) s) lz ∙ ap (λ (n : ℕ). moved a d (length xs) n s) (ap (number a) e1 ∙ z)
          ∙ moved_twice a d (length xs) (number a xs) (number a (take j ys)) s ∙ ap (λ (n : ℕ). moved a d (length xs) (number a xs) (number a (take j ys) + n)) (t.power k) in
          v.means a o ∙ chosen_move (number a m1) (number a z2) 0 (number a (take j ys)) (2 ^ j) (number a (take (j + 1) ys)) (lit_true a (get_or ys j y0)) (λ n. moved a d (length xs) (number a xs) n)
          (ap (number a) e2 ∙ z) c (number_take a ys j y0 r);
      far = λ a o f. let n = h.far a (g.keeps a o) f in let y = number_take a ys j y0 r in omega arith;
    }

none_of : (u v : Bool) → (u || v) ≡ false → (u ≡ false) × (v ≡ false)
none_of true true e = (e, e)
none_of true false e = (e, refl)
none_of false true e = (refl, e)
none_of false false e = (refl, refl)

-- one bit more, that moves out the word where it is set
pub moving_far : (b b' : Builder) (d : Direction) (xs ys zs : List Lit) (l k y0 : Lit) (s j : ℕ) → IsMoving b d xs ys zs l j → IsStep s j (length xs) → length xs ≤ s
    → Grows b b' → IsBit b' k (λ a. lit_true a l || lit_true a (get_or ys j y0)) → j < length ys → IsMoving b' d xs ys zs k (j + 1)
moving_far b b' d xs ys zs l k y0 s j h t q g i r = record {
  in_range = clause_below_more b.clauses.vars b'.clauses.vars zs g.grows h.in_range;
  width = h.width;
  flag = i.in_range;
  short = λ a o f.
      let n = none_of (lit_true a l) (lit_true a (get_or ys j y0)) (sym (i.means a o) ∙ f) in
      let y : number a (take (j + 1) ys) ≡ number a (take j ys) + 2 ^ j * bit (lit_true a (get_or ys j y0)) = number_take a ys j y0 r in
      let z : bit (lit_true a (get_or ys j y0)) ≡ 0 = ap bit n.1 in
      let e : number a (take (j + 1) ys) ≡ number a (take j ys) = y ∙ ap (λ (m : ℕ). number a (take j ys) + 2 ^ j * m) z ∙ omega arith in
      h.short a (g.keeps a o) n.0 ∙ ap (λ (m : ℕ). moved a d (length xs) (number a xs) m) (sym e);
  far = λ a o f.
      let y : number a (take (j + 1) ys) ≡ number a (take j ys) + 2 ^ j * bit (lit_true a (get_or ys j y0)) = number_take a ys j y0 r in
      elim (or_cases _ _ (sym (i.means a o) ∙ f)) [
        | inl e ↦ let n : length xs ≤ number a (take j ys) = h.far a (g.keeps a o) e in omega arith
        | inr e ↦
            let z : bit (lit_true a (get_or ys j y0)) ≡ 1 = ap bit e in
            let w : length xs ≤ 2 ^ j = t.full q in
            let c : number a (take (j + 1) ys) ≡ number a (take j ys) + 2 ^ j * 1 = y ∙ ap (λ (m : ℕ). number a (take j ys) + 2 ^ j * m) z in
            omega arith
      ];
}

chosen_end : (u : Bool) (m z t : ℕ) → (u ≡ true → m ≡ t) → (u ≡ false → z ≡ t) → (if u then m else z) ≡ t
chosen_end true m z t f g = f refl
chosen_end false m z t f g = g refl

-- zs is the word after all bits, lent as z1, es the word that is moved out, lent as e1, and vs the choice
pub moving_all : (b b' : Builder) (d : Direction) (xs ys zs z1 es e1 vs : List Lit) (l : Lit) (j : ℕ) → IsMoving b d xs ys zs l j → j ≡ length ys → z1 ≡ zs → e1 ≡ es
    → IsWord b es (length xs) (λ a. moved a d (length xs) (number a xs) (length xs)) → Grows b b' → IsWord b' vs (length e1) (λ a. if lit_true a l then number a e1 else number a z1)
    → IsWord b' vs (length xs) (λ a. moved a d (length xs) (number a xs) (number a ys))
moving_all b b' d xs ys zs z1 es e1 vs l j h q e f m g v =
    let le : length e1 ≡ length xs = ap (λ (t : List Lit). length t) f ∙ m.width in
    word_same (length xs) (λ a. moved a d (length xs) (number a xs) (number a ys)) v le
    (λ a o.
    let o1 = g.keeps a o in
    let y : number a (take j ys) ≡ number a ys = ap (number a) (take_all ys j q) in
    chosen_end (lit_true a l) (number a e1) (number a z1) (moved a d (length xs) (number a xs) (number a ys))
    (λ t.
    let n : length xs ≤ number a (take j ys) = h.far a o1 t in
    let n1 : length xs ≤ number a ys = omega arith in
    ap (number a) f ∙ m.means a o1 ∙ sym (moved_all a d (length xs) (number a xs) (number a ys) (number_below a xs) n1))
    (λ t. ap (number a) e ∙ h.short a o1 t ∙ ap (λ (n : ℕ). moved a d (length xs) (number a xs) n) y))

-- ---- the numbers of the three shifts
is_left : (w x y : ℕ) → (x * 2 ^ y) % 2 ^ w ≡ shift_left w x y
is_left w x y = by_cases ((x * 2 ^ y) % 2 ^ w ≡ shift_left w x y) (ltb y w)
    (λ e. ap (λ (v : Bool). if v then (x * 2 ^ y) % 2 ^ w else 0) (sym e))
    (λ e. power_gone w y x (ltb-false y w e) ∙ ap (λ (v : Bool). if v then (x * 2 ^ y) % 2 ^ w else 0) (sym e))

is_right : (w x y : ℕ) → x < 2 ^ w → x / 2 ^ y ≡ shift_right w x y
is_right w x y h = by_cases (x / 2 ^ y ≡ shift_right w x y) (ltb y w)
    (λ e. ap (λ (v : Bool). if v then x / 2 ^ y else 0) (sym e))
    (λ e. none_left w y x h (ltb-false y w e) ∙ ap (λ (v : Bool). if v then x / 2 ^ y else 0) (sym e))

ones_above : (w y : ℕ) → y ≤ w → 2 ^ (w - y) * (2 ^ y - 1) ≡ top_ones w y
ones_above w y h =
    let e : w ≡ (w - y) + y = omega arith in
    let p : 2 ^ w ≡ 2 ^ (w - y) * 2 ^ y = ap (λ (n : ℕ). 2 ^ n) e ∙ pow-add 2 (w - y) y in
    let z : 0 < 2 ^ y = pow_pos y in
    let c : 2 ^ y ≡ (2 ^ y - 1) + 1 = omega arith in
    let d : 2 ^ (w - y) * 2 ^ y ≡ 2 ^ (w - y) * ((2 ^ y - 1) + 1) = ap (λ (n : ℕ). 2 ^ (w - y) * n) c in
    omega arith

is_filled : (w x y : ℕ) → x < 2 ^ w → moved_down w true x y ≡ shift_right w x y + top_ones w y
is_filled w x y h = by_cases (moved_down w true x y ≡ shift_right w x y + top_ones w y) (ltb y w)
    (λ e.
    let l : y < w = ltb-true y w e in
    down_filled w y x (omega arith) h ∙ ap (λ (n : ℕ). n + 2 ^ (w - y) * (2 ^ y - 1)) (is_right w x y h) ∙ ap (λ (n : ℕ). shift_right w x y + n) (ones_above w y (omega arith)))
    (λ e.
    let l : w ≤ y = ltb-false y w e in
    let z : 0 < 2 ^ w = pow_pos w in
    let c : 2 ^ w - 1 - x < 2 ^ w = omega arith in
    let n : (2 ^ w - 1 - x) / 2 ^ y ≡ 0 = none_left w y (2 ^ w - 1 - x) c l in
    let r : shift_right w x y ≡ 0 = sym (is_right w x y h) ∙ none_left w y x h l in
    let d : w - y ≡ 0 = omega arith in
    let t : 2 ^ (w - y) ≡ 1 = ap (λ (k : ℕ). 2 ^ k) d in
    omega arith)

is_signed : (w x y : ℕ) (v : Bool) → is_negative w x ≡ v → x < 2 ^ w → moved_down w v x y ≡ shift_signed w x y
is_signed w x y true e h = is_filled w x y h ∙ ap (λ (v : Bool). if v then shift_right w x y + top_ones w y else shift_right w x y) (sym e)
is_signed w x y false e h = is_right w x y h ∙ ap (λ (v : Bool). if v then shift_right w x y + top_ones w y else shift_right w x y) (sym e)

pub is_shift_left : (b : Builder) (xs ys zs : List Lit) → IsWord b zs (length xs) (λ a. moved a Up (length xs) (number a xs) (number a ys)) → IsWord b zs (length xs) (λ a. shift_left (length xs) (number a xs) (number a ys))
is_shift_left b xs ys zs h = word_same (length xs) (λ a. shift_left (length xs) (number a xs) (number a ys)) h refl (λ a o. is_left (length xs) (number a xs) (number a ys))

pub is_shift_right : (b : Builder) (xs ys zs : List Lit) (c : Lit) → c ≡ constant_lit false → IsWord b zs (length xs) (λ a. moved a (Down c) (length xs) (number a xs) (number a ys))
    → IsWord b zs (length xs) (λ a. shift_right (length xs) (number a xs) (number a ys))
is_shift_right b xs ys zs c e h = word_same (length xs) (λ a. shift_right (length xs) (number a xs) (number a ys)) h refl
    (λ a o. ap (λ (v : Bool). moved_down (length xs) v (number a xs) (number a ys)) (known b c false a e o) ∙ is_right (length xs) (number a xs) (number a ys) (number_below a xs))

pub is_shift_signed : (b : Builder) (xs ys zs : List Lit) (c : Lit) (i : ℕ) → i + 1 ≡ length xs → xs ≡ take i xs ++ c ∷ [] → IsWord b zs (length xs) (λ a. moved a (Down c) (length xs) (number a xs) (number a ys))
    → IsWord b zs (length xs) (λ a. shift_signed (length xs) (number a xs) (number a ys))
is_shift_signed b xs ys zs c i u e h = word_same (length xs) (λ a. shift_signed (length xs) (number a xs) (number a ys)) h refl
    (λ a o.
    let m : length xs - 1 ≡ i = omega arith in
    let t : is_negative (length xs) (number a xs) ≡ lit_true a c = ap (λ (k : ℕ). leb (2 ^ k) (number a xs)) m ∙ top_bit a xs i c u e in
    is_signed (length xs) (number a xs) (number a ys) (lit_true a c) t (number_below a xs))
