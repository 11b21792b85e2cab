-- A test of some item, and how far a search for it has come.
use Rattle.std.proofs.Common.{arith, ◌≡◌, ℕ, zero, suc, ◌+◌, ◌<◌, ◌≤◌, Bool, true, false, ◌||◌, List, [], ◌∷◌, ◌++◌, length, map, take, get_or, refl, sym, ap, ◌∙◌}
use Rattle.std.specs.List.{list_any}
use Rattle.std.proofs.lemmas.List.{take_more, take_all, map-append}

pub or_true : (b : Bool) → (b || true) ≡ true
or_true true = refl
or_true false = refl

first_false : (a b : Bool) → (a || b) ≡ false → (a ≡ false) × (b ≡ false)
first_false true b h = absurd (cc)
first_false false b h = (refl, h)

module _ {A B : Type 0} (p : B → Bool) (f : A → B) where
  any-append : (xs : List B) (y : B) → list_any p xs ≡ false → p y ≡ false → list_any p (xs ++ y ∷ []) ≡ false
  any-append [] y h k = ap (λ b. b || false) k
  any-append (x ∷ more) y h k =
      let e = first_false (p x) (list_any p more) h in
      ap (λ b. b || list_any p (more ++ y ∷ [])) e.0 ∙ any-append more y e.1 k

  -- an item that passes
  pub any-found : (xs : List A) (i : ℕ) (x : A) → i < length xs → x ≡ get_or xs i x → p (f x) ≡ true → list_any p (map f xs) ≡ true
  any-found [] i x l e h = absurd (omega arith)
  any-found (y ∷ more) zero x l e h = ap (λ b. b || list_any p (map f more)) (ap (λ z. p (f z)) (sym e) ∙ h)
  any-found (y ∷ more) (suc i) x l e h = ap (λ b. p (f y) || b) (any-found more i x (omega arith) e h) ∙ or_true (p (f y))

  -- one more that doesn't
  pub any-more : (xs : List A) (i : ℕ) (x : A) → i < length xs → x ≡ get_or xs i x → p (f x) ≡ false → list_any p (map f (take i xs)) ≡ false → list_any p (map f (take (i + 1) xs)) ≡ false
  any-more xs i x l e h k =
      let q : take (i + 1) xs ≡ take i xs ++ x ∷ [] = take_more xs i x l ∙ ap (λ z. take i xs ++ z ∷ []) (sym e) in
      ap (λ zs. list_any p (map f zs)) q ∙ ap (list_any p) (map-append f (take i xs) (x ∷ [])) ∙ any-append (map f (take i xs)) (f x) k h

  -- none
  pub any-none : (xs : List A) (i : ℕ) → length xs ≤ i → list_any p (map f (take i xs)) ≡ false → list_any p (map f xs) ≡ false
  any-none xs i l h = ap (λ zs. list_any p (map f zs)) (sym (take_all i xs l)) ∙ h
