-- Items of which no two have one name, one item at a time.
use Rattle.std.proofs.Common.{arith, ◌≡◌, ◌≢◌, ℕ, zero, suc, ◌+◌, ◌<◌, ◌≤◌, Bool, true, false, ◌||◌, ◌==◌, map, List, [], ◌∷◌, ◌++◌, length, take, get_or, refl, sym, ap, ◌∙◌, subst}
use Rattle.std.specs.Prelude.{Any, AllPairs}
use Rattle.std.specs.List.{list_any}
use Rattle.std.proofs.lemmas.Bool.Decides.{Decides-eqb}
use Rattle.sort_term.proofs.AnyOf.{any-found}
use Rattle.std.proofs.lemmas.List.{take_more, take_all, get_or-take, length-take-le}
use Rattle.std.proofs.lemmas.List.Quantifiers.{all_pairs_push}

-- an item that is there doesn't depend on what stands past the end
pub get-any : {X : Type 0} (xs : List X) (n : ℕ) (a b : X) → n < length xs → get_or xs n a ≡ get_or xs n b
get-any [] n a b m = absurd (omega arith)
get-any (x ∷ xs) zero a b m = refl
get-any (x ∷ xs) (suc n) a b m = get-any xs n a b (omega arith)

module _ {X K : Type 0} (key : X → K) (xs : List X) (i : ℕ) (x : X) (n : K) (l : i < length xs) (e : x ≡ get_or xs i x) (named : n ≡ key x) where
  -- an item that has the key of an earlier one
  pub distinct-not : Any (λ y. key y ≡ n) (take i xs) → ¬ AllPairs (λ a b. key a ≢ key b) xs
  distinct-not found all =
      let k = found.0 in
      let y = found.1 in
      let in_front = found.2 in
      let long : length (take i xs) ≡ i = length-take-le i xs (omega arith) in
      let below : k < i = omega arith in
      let there : get_or xs k y ≡ y = sym (get_or-take i xs k y below) ∙ found.3 in
      let same : get_or xs i y ≡ x = get-any xs i y x l ∙ sym e in
      all k i y below l (ap key there ∙ found.4 ∙ named ∙ ap key (sym same))

  -- an item that has the key of no earlier one
  pub distinct-more : ¬ Any (λ y. key y ≡ n) (take i xs) → AllPairs (λ a b. key a ≢ key b) (take i xs) → AllPairs (λ a b. key a ≢ key b) (take (i + 1) xs)
  distinct-more none all =
      let p : take (i + 1) xs ≡ take i xs ++ x ∷ [] = take_more xs i x l ∙ ap (λ z. take i xs ++ z ∷ []) (sym e) in
      let other : (k : ℕ) (d : X) → k < length (take i xs) → key (get_or (take i xs) k d) ≢ key x =
      λ k d m same. none (k, get_or (take i xs) k d, m, get-any (take i xs) k _ d m, same ∙ sym named) in
      subst (AllPairs (λ a b. key a ≢ key b)) (sym p) (all_pairs_push (λ a b. key a ≢ key b) (take i xs) x all other)

-- all items
pub distinct-all : {X K : Type 0} (key : X → K) (xs : List X) (i : ℕ) → length xs ≤ i → AllPairs (λ a b. key a ≢ key b) (take i xs) → AllPairs (λ a b. key a ≢ key b) xs
distinct-all key xs i l all = subst (AllPairs (λ a b. key a ≢ key b)) (take_all i xs l) all

module _ {X : Type 0} (key : X → ℕ) (n : ℕ) where
  later : (x : X) (more : List X) → Any (λ y. key y ≡ n) more → Any (λ y. key y ≡ n) (x ∷ more)
  later x more a = let l = a.2 in (suc a.0, a.1, omega arith, a.3, a.4)

  pick : (x : X) (more : List X) (b : Bool) → (key x == n) ≡ b → (b || list_any (λ y. key y == n) more) ≡ true → (list_any (λ y. key y == n) more ≡ true → Any (λ y. key y ≡ n) more) → Any (λ y. key y ≡ n) (x ∷ more)
  pick x more true e h rest = (0, x, omega arith, refl, (Decides-eqb (key x) n).0 e)
  pick x more false e h rest = later x more (rest h)

  -- a test of keys tells whether some item has the key
  pub any-key : (xs : List X) → list_any (λ y. key y == n) xs ≡ true → Any (λ y. key y ≡ n) xs
  any-key [] h = absurd (cc)
  any-key (x ∷ more) h = pick x more (key x == n) refl h (any-key more)

  pub key-any : (xs : List X) → Any (λ y. key y ≡ n) xs → list_any (λ y. key y == n) xs ≡ true
  key-any xs a =
      let found = any-found (λ (y : X). key y == n) (λ (y : X). y) xs a.0 a.1 a.2 (sym a.3) ((Decides-eqb (key a.1) n).1 a.4) in
      ap (list_any (λ y. key y == n)) (sym (map_id xs)) ∙ found
    where
      map_id : (ys : List X) → map (λ (y : X). y) ys ≡ ys
      map_id [] = refl
      map_id (y ∷ ys) = ap (λ zs. y ∷ zs) (map_id ys)
