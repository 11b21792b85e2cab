-- Some item of a list.
use Rattle.std.proofs.Common.{arith, ◌≡◌, ◌↔◌, ℕ, zero, suc, ◌+◌, ◌<◌, List, [], ◌∷◌, ◌++◌, length, map, take, get_or, All, refl, sym, ap, ◌∙◌, subst, ◌⊎◌, inl, inr}
use Rattle.std.specs.Prelude.{Any}
use Rattle.std.proofs.lemmas.List.{take_more}

module _ {X : Type 0} (P : X → Type 0) where
  pub any_none : Any P [] → ⊥
  any_none a = let l = a.2 in omega arith

  pub any_here : (x : X) (xs : List X) → P x → Any P (x ∷ xs)
  any_here x xs p = (0, x, omega arith, refl, p)

  pub any_later : (x : X) (xs : List X) → Any P xs → Any P (x ∷ xs)
  any_later x xs a = let l = a.2 in (suc a.0, a.1, omega arith, a.3, a.4)

  pub any_cases : (x : X) (xs : List X) → Any P (x ∷ xs) → P x ⊎ Any P xs
  any_cases x xs a = go a.0 a.1 a.2 a.3 a.4
    where
      go : (k : ℕ) (y : X) → k < length (x ∷ xs) → get_or (x ∷ xs) k y ≡ y → P y → P x ⊎ Any P xs
      go zero y l e p = inl (subst P (sym e) p)
      go (suc k) y l e p = inr (k, y, omega arith, e, p)

  pub any_left : (xs ys : List X) → Any P xs → Any P (xs ++ ys)
  any_left [] ys a = absurd (any_none a)
  any_left (x ∷ xs) ys a = go (any_cases x xs a) (any_left xs ys)
    where
      go : P x ⊎ Any P xs → (Any P xs → Any P (xs ++ ys)) → Any P (x ∷ (xs ++ ys))
      go (inl p) more = any_here x (xs ++ ys) p
      go (inr b) more = any_later x (xs ++ ys) (more b)

  pub any_right : (xs ys : List X) → Any P ys → Any P (xs ++ ys)
  any_right [] ys a = a
  any_right (x ∷ xs) ys a = any_later x (xs ++ ys) (any_right xs ys a)

  pub any_split : (xs ys : List X) → Any P (xs ++ ys) → Any P xs ⊎ Any P ys
  any_split [] ys a = inr a
  any_split (x ∷ xs) ys a = go (any_cases x (xs ++ ys) a) (any_split xs ys)
    where
      go : P x ⊎ Any P (xs ++ ys) → (Any P (xs ++ ys) → Any P xs ⊎ Any P ys) → Any P (x ∷ xs) ⊎ Any P ys
      go (inl p) more = inl (any_here x xs p)
      go (inr b) more = found (more b)
        where
          found : Any P xs ⊎ Any P ys → Any P (x ∷ xs) ⊎ Any P ys
          found (inl c) = inl (any_later x xs c)
          found (inr c) = inr c

  pub any_one : (x : X) → Any P (x ∷ []) → P x
  any_one x a = go (any_cases x [] a)
    where
      go : P x ⊎ Any P [] → P x
      go (inl p) = p
      go (inr b) = absurd (any_none b)

  -- some item of the first i + 1 is one of the first i or the item at i
  pub any_more : (xs : List X) (i : ℕ) (x : X) → i < length xs → x ≡ get_or xs i x → Any P (take (i + 1) xs) ↔ (Any P (take i xs) ⊎ P x)
  any_more xs i x l e = (to, from)
    where
      same : take (i + 1) xs ≡ take i xs ++ x ∷ []
      same = take_more xs i x l ∙ ap (λ z. take i xs ++ z ∷ []) (sym e)

      to : Any P (take (i + 1) xs) → Any P (take i xs) ⊎ P x
      to a = go (any_split (take i xs) (x ∷ []) (subst (Any P) same a))
        where
          go : Any P (take i xs) ⊎ Any P (x ∷ []) → Any P (take i xs) ⊎ P x
          go (inl b) = inl b
          go (inr b) = inr (any_one x b)

      from : Any P (take i xs) ⊎ P x → Any P (take (i + 1) xs)
      from (inl b) = subst (Any P) (sym same) (any_left (take i xs) (x ∷ []) b)
      from (inr p) = subst (Any P) (sym same) (any_right (take i xs) (x ∷ []) (any_here x [] p))

-- what has P has Q
pub any_weaker : {X : Type 0} (P Q : X → Type 0) (xs : List X) → ((x : X) → P x → Q x) → Any P xs → Any Q xs
any_weaker P Q xs f a = (a.0, a.1, a.2, a.3, f a.1 a.4)

-- the same of items that all have R
pub any_among : {X : Type 0} (R P Q : X → Type 0) (xs : List X) → All R xs → ((x : X) → R x → P x → Q x) → Any P xs → Any Q xs
any_among R P Q xs r f a = (a.0, a.1, a.2, a.3, f a.1 (subst R a.3 (r a.0 a.1 a.2)) a.4)

-- an image, and what it is the image of
pub any_map : {X Y : Type 0} (P : Y → Type 0) (f : X → Y) (xs : List X) → Any P (map f xs) ↔ Any (λ x. P (f x)) xs
any_map {X} {Y} P f xs = (to xs, from xs)
  where
    to : (ys : List X) → Any P (map f ys) → Any (λ x. P (f x)) ys
    to [] a = absurd (any_none P a)
    to (y ∷ ys) a = go (any_cases P (f y) (map f ys) a) (to ys)
      where
        go : P (f y) ⊎ Any P (map f ys) → (Any P (map f ys) → Any (λ x. P (f x)) ys) → Any (λ x. P (f x)) (y ∷ ys)
        go (inl p) more = any_here (λ x. P (f x)) y ys p
        go (inr b) more = any_later (λ x. P (f x)) y ys (more b)

    from : (ys : List X) → Any (λ x. P (f x)) ys → Any P (map f ys)
    from [] a = absurd (any_none (λ x. P (f x)) a)
    from (y ∷ ys) a = go (any_cases (λ x. P (f x)) y ys a) (from ys)
      where
        go : P (f y) ⊎ Any (λ x. P (f x)) ys → (Any (λ x. P (f x)) ys → Any P (map f ys)) → Any P (map f (y ∷ ys))
        go (inl p) more = any_here P (f y) (map f ys) p
        go (inr b) more = any_later P (f y) (map f ys) (more b)
