-- Entries whose keys rise, one behind the other.
use Rattle.std.proofs.Common.{arith, ◌≡◌, ℕ, zero, suc, ◌+◌, ◌-◌, ◌<◌, ◌≤◌, Bool, true, false, ◌&&◌, nat_le, List, [], ◌∷◌, length, take, get_or, refl, ap, ◌∙◌, subst}
use Rattle.std.proofs.lemmas.Bool.Decides.{nat_tests}
use Rattle.data_value.specs.Maps.{rises_from}

and_more : (a b c : Bool) → (b ≡ true → c ≡ true) → (a && b) ≡ true → (a && c) ≡ true
and_more true b c h ab = h ab
and_more false b c h ab = absurd cc

and_none : (a b : Bool) → b ≡ false → (a && b) ≡ false
and_none true b h = h
and_none false b h = refl

first_two : (from : ℕ) (e f : ℕ × ℕ) → e.0 < f.0 → rises_from from (e ∷ []) ≡ true → rises_from from (e ∷ f ∷ []) ≡ true
first_two from e f above rises = grind (arith, nat_tests)

falls : (from : ℕ) (e f : ℕ × ℕ) (es : List (ℕ × ℕ)) → f.0 ≤ e.0 → rises_from from (e ∷ f ∷ es) ≡ false
falls from e f es below = grind (arith, nat_tests)

-- one more entry, with a larger key
rises_more : (from : ℕ) (es : List (ℕ × ℕ)) (i : ℕ) (d e : ℕ × ℕ) → suc i < length es → (get_or es i d).0 < (get_or es (suc i) e).0 → rises_from from (take (suc i) es) ≡ true → rises_from from (take (suc (suc i)) es) ≡ true
rises_more from [] i d e within above rises = absurd (omega arith)
rises_more from (x ∷ []) i d e within above rises = absurd (omega arith)
rises_more from (x ∷ y ∷ es) zero d e within above rises = first_two from x y above rises
rises_more from (x ∷ y ∷ es) (suc i) d e within above rises =
    and_more (nat_le from x.0) (rises_from (suc x.0) (take (suc i) (y ∷ es))) (rises_from (suc x.0) (take (suc (suc i)) (y ∷ es))) (rises_more (suc x.0) (y ∷ es) i d e (omega arith) above) rises

-- one entry with no larger key
rises_not : (from : ℕ) (es : List (ℕ × ℕ)) (i : ℕ) (d e : ℕ × ℕ) → suc i < length es → (get_or es (suc i) e).0 ≤ (get_or es i d).0 → rises_from from es ≡ false
rises_not from [] i d e within below = absurd (omega arith)
rises_not from (x ∷ []) i d e within below = absurd (omega arith)
rises_not from (x ∷ y ∷ es) zero d e within below = falls from x y es below
rises_not from (x ∷ y ∷ es) (suc i) d e within below =
    and_none (nat_le from x.0) (rises_from (suc x.0) (y ∷ es)) (rises_not (suc x.0) (y ∷ es) i d e (omega arith) below)

-- a single entry rises
pub one_rises : (es : List (ℕ × ℕ)) → rises_from 0 (take 1 es) ≡ true
one_rises [] = refl
one_rises (e ∷ es) = grind (arith, nat_tests)

module _ (es : List (ℕ × ℕ)) (d : ℕ × ℕ) where
  -- one more entry, with a larger key than the one before it
  pub rises_on : (i : ℕ) → 1 ≤ i → i < length es → (get_or es (i - 1) d).0 < (get_or es i d).0 → rises_from 0 (take i es) ≡ true → rises_from 0 (take (i + 1) es) ≡ true
  rises_on zero begun within above rises = absurd (omega arith)
  rises_on (suc i) begun within above rises =
      let before : suc i - 1 ≡ i = omega arith in
      let count : suc i + 1 ≡ suc (suc i) = omega arith in
      ap (λ n. rises_from 0 (take n es)) count ∙ rises_more 0 es i d d within (subst (λ n. (get_or es n d).0 < (get_or es (suc i) d).0) before above) rises

  -- an entry with no larger key than the one before it
  pub rises_no_more : (i : ℕ) → 1 ≤ i → i < length es → (get_or es i d).0 ≤ (get_or es (i - 1) d).0 → rises_from 0 es ≡ false
  rises_no_more zero begun within below = absurd (omega arith)
  rises_no_more (suc i) begun within below =
      let before : suc i - 1 ≡ i = omega arith in
      rises_not 0 es i d d within (subst (λ n. (get_or es (suc i) d).0 ≤ (get_or es n d).0) before below)
