-- What holds of each item of a list, and what a list has, one item at a time.
use Rattle.std.proofs.Common.{arith, ◌≡◌, ◌↔◌, ℕ, zero, suc, ◌+◌, ◌<◌, List, [], ◌∷◌, ◌++◌, length, map, take, get_or, All, refl, sym, ap, ◌∙◌, subst, ◌⊎◌, inl, inr}
use Rattle.std.specs.List.{Contains}
use Rattle.std.proofs.lemmas.List.{take_more}
use Rattle.std.proofs.lemmas.List.Elements.{All-push, All-take, All-get_or}
use Rattle.unify.proofs.Lists.{all_front, all_mapped}

module _ {X : Type 0} (P : X → Type 0) (xs : List X) (i : ℕ) (x : X) (l : i < length xs) (e : x ≡ get_or xs i x) where
  -- the first i + 1 items are the first i and the item at i
  pub all_more : All P (take (i + 1) xs) ↔ (All P (take i xs) × P x)
  all_more =
      let q : take (i + 1) xs ≡ take i xs ++ x ∷ [] = take_more xs i x l ∙ ap (λ z. take i xs ++ z ∷ []) (sym e) in (
        λ a. all_front P (take i xs) x (subst (All P) q a),
        λ b. subst (All P) (sym q) (All-push P (take i xs) x b.0 b.1),
      )

  -- all items are among them the first i and the item at i
  pub all_split : All P xs → All P (take i xs) × P x
  all_split a = (All-take P i xs a, subst P (sym e) (All-get_or P xs i x l a))

pub all_here : {X : Type 0} (P : X → Type 0) (xs : List X) (i : ℕ) (x : X) → i < length xs → x ≡ get_or xs i x → All P xs → P x
all_here P xs i x l e a = subst P (sym e) (All-get_or P xs i x l a)

-- what holds of each image holds of that of the item at i
pub image_here : {X Y : Type 0} (P : Y → Type 0) (f : X → Y) (xs : List X) (i : ℕ) (x : X) → All P (map f xs) → i < length xs → x ≡ get_or xs i x → P (f x)
image_here P f xs i x a l e = all_here (λ y. P (f y)) xs i x l e (all_mapped P f xs a)

-- the last items of lists
pub last_same : {A : Type 0} (xs ys : List A) (x y : A) → xs ++ x ∷ [] ≡ ys ++ y ∷ [] → (xs ≡ ys) × (x ≡ y)
last_same [] [] x y h = (refl, cc)
last_same [] (b ∷ []) x y h = absurd (cc)
last_same [] (b ∷ c ∷ ys) x y h = absurd (cc)
last_same (a ∷ []) [] x y h = absurd (cc)
last_same (a ∷ c ∷ xs) [] x y h = absurd (cc)
last_same (a ∷ xs) (b ∷ ys) x y h =
    let e : a ≡ b = cc in
    let f : xs ++ x ∷ [] ≡ ys ++ y ∷ [] = cc in
    let r = last_same xs ys x y f in
    let g : xs ≡ ys = r.0 in
    (cc, r.1)

-- what a list has, by recursion
pub contains_nil : {X : Type 0} (x : X) → ¬ Contains [] x
contains_nil x c = let l = c.1 in absurd (omega arith)

pub contains_cons : {X : Type 0} (y : X) (xs : List X) (x : X) → Contains xs x → Contains (y ∷ xs) x
contains_cons y xs x c = let l = c.1 in (suc c.0, omega arith, c.2)

pub contains_cases : {X : Type 0} (y : X) (xs : List X) (x : X) → Contains (y ∷ xs) x → (x ≡ y) ⊎ Contains xs x
contains_cases y xs x c = go c.0 c.1 c.2
  where
    go : (k : ℕ) → k < length (y ∷ xs) → get_or (y ∷ xs) k x ≡ x → (x ≡ y) ⊎ Contains xs x
    go zero l e = inl (sym e)
    go (suc k) l e = inr (k, omega arith, e)

pub only_one : {X : Type 0} (y x : X) → Contains (y ∷ []) x → x ≡ y
only_one y x c = go (contains_cases y [] x c)
  where
    go : (x ≡ y) ⊎ Contains [] x → x ≡ y
    go (inl e) = e
    go (inr n) = absurd (contains_nil x n)

pub contains_map : {X Y : Type 0} (f : X → Y) (xs : List X) (y : Y) → Contains (map f xs) y → (x : X) × Contains xs x × (y ≡ f x)
contains_map f [] y c = absurd (contains_nil y c)
contains_map {X} {Y} f (x ∷ xs) y c = go (contains_cases (f x) (map f xs) y c) (contains_map f xs y)
  where
    go : (y ≡ f x) ⊎ Contains (map f xs) y → (Contains (map f xs) y → (z : X) × Contains xs z × (y ≡ f z)) → (z : X) × Contains (x ∷ xs) z × (y ≡ f z)
    go (inl e) more = (x, (0, omega arith, refl), e)
    go (inr c) more = let r = more c in (r.0, contains_cons x xs r.0 r.1, r.2)

pub map_contains : {X Y : Type 0} (f : X → Y) (xs : List X) (x : X) → Contains xs x → Contains (map f xs) (f x)
map_contains f [] x c = absurd (contains_nil x c)
map_contains f (y ∷ xs) x c = go (contains_cases y xs x c) (map_contains f xs x)
  where
    go : (x ≡ y) ⊎ Contains xs x → (Contains xs x → Contains (map f xs) (f x)) → Contains (map f (y ∷ xs)) (f x)
    go (inl e) more = (0, omega arith, ap f (sym e))
    go (inr n) more = contains_cons (f y) (map f xs) (f x) (more n)
