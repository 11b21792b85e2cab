-- Numbers that literals spell.
use Rattle.std.proofs.Common.{ℕ, suc, ◌≡◌, ◌<◌, ◌≤◌, ◌+◌, ◌*◌, ◌^◌, Bool, true, false, List, [], ◌∷◌, ◌++◌, length, take, get_or, refl, ap, ◌∙◌, arith, add-one}
use Rattle.std.proofs.Math.Nat.{pow-suc}
use Rattle.std.proofs.Math.Seq.{take-suc}
use Rattle.std.proofs.lemmas.List.{length-take-le}
use Rattle.refute_check.specs.declared.lit.Lit.{Lit}
use Rattle.refute_check.specs.Truth.{lit_true}
use Rattle.bit_gates.specs.Bits.{bit, number}

pub number_cons : (a : ℕ → Bool) (l : Lit) (ls : List Lit) → number a (l ∷ ls) ≡ bit (lit_true a l) + 2 * number a ls
unfolding number
number_cons a l ls = refl

pub number_nil : (a : ℕ → Bool) → number a [] ≡ 0
unfolding number
number_nil a = refl

pub doubled : (k p : ℕ) → p ≡ 2 ^ k → 2 ^ suc k ≡ 2 * p
doubled k p e = omega (arith, pow-suc 2 k, e)

pub number_join : (a : ℕ → Bool) (xs ys : List Lit) → number a (xs ++ ys) ≡ number a xs + 2 ^ length xs * number a ys
number_join a [] ys = rw (number_nil a) (omega arith)
number_join a (x ∷ xs) ys =
    let h = number_join a xs ys in
    let d : 2 ^ suc (length xs) ≡ 2 * 2 ^ length xs = doubled (length xs) _ refl in
    let g : number a (x ∷ (xs ++ ys)) ≡ bit (lit_true a x) + 2 * number a (xs ++ ys) = number_cons a x (xs ++ ys) in
    rw (number_cons a x (xs ++ ys), number_cons a x xs, h, d) (omega arith)

pub number_append : (a : ℕ → Bool) (xs : List Lit) (l : Lit) → number a (xs ++ l ∷ []) ≡ number a xs + 2 ^ length xs * bit (lit_true a l)
number_append a xs l =
    let e : number a (l ∷ []) ≡ bit (lit_true a l) = number_cons a l [] ∙ rw (number_nil a) (omega arith) in
    number_join a xs (l ∷ []) ∙ ap (λ (n : ℕ). number a xs + 2 ^ length xs * n) e

pub bit_small : (b : Bool) → bit b ≤ 1
bit_small true = omega arith
bit_small false = omega arith

pub number_below : (a : ℕ → Bool) (xs : List Lit) → number a xs < 2 ^ length xs
number_below a [] = rw (number_nil a) (omega arith)
number_below a (x ∷ xs) =
    let h = number_below a xs in
    let d : 2 ^ suc (length xs) ≡ 2 * 2 ^ length xs = doubled (length xs) _ refl in
    let g = bit_small (lit_true a x) in
    rw (number_cons a x xs, d) (omega arith)

pub number_take : (a : ℕ → Bool) (xs : List Lit) (i : ℕ) (d : Lit) → i < length xs → number a (take (i + 1) xs) ≡ number a (take i xs) + 2 ^ i * bit (lit_true a (get_or xs i d))
number_take a xs i d h =
    let e : take (i + 1) xs ≡ take i xs ++ (get_or xs i d ∷ []) = rw add-one (take-suc xs i d h) in
    let f : length (take i xs) ≡ i = length-take-le i xs (omega arith) in
    rw (e, number_append a (take i xs) (get_or xs i d), f) refl
