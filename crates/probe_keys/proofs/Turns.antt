-- What loops over lists know after one item more.
use Rattle.std.proofs.Common.{arith, ◌≡◌, ◌↔◌, ◌⊎◌, inl, inr, ℕ, ◌+◌, ◌<◌, ◌≤◌, List, [], ◌∷◌, ◌++◌, length, map, take, get_or, All, Any, sym, ap, ◌∙◌, subst}
use Rattle.std.proofs.Math.Seq.{take-append_seam, drop-append_seam, get_or-append_seam}
use Rattle.std.proofs.lemmas.Bool.{cases_lt}
use Rattle.std.proofs.lemmas.List.{take_more, map-append, get_or_append_left, get_or-map, length-append, length-map}
use Rattle.std.proofs.lemmas.List.Elements.{All-head, All-push, All-take, All-drop}
use Rattle.std.proofs.lemmas.List.Quantifiers.{Any-push}

module _ {Y : Type 0} (P : Y → Type 0) (ys : List Y) (y : Y) where
  all_pushed : All P (ys ++ y ∷ []) ↔ (All P ys × P y)
  all_pushed = (
    λ a. (
      subst (All P) (take-append_seam ys (y ∷ [])) (All-take P (length ys) (ys ++ y ∷ []) a),
      All-head P y [] (subst (All P) (drop-append_seam ys (y ∷ [])) (All-drop P (length ys) (ys ++ y ∷ []) a)),
    ),
    λ a. All-push P ys y a.0 a.1,
  )

  any_pushed : Any P (ys ++ y ∷ []) ↔ (Any P ys ⊎ P y)
  any_pushed = (λ a. to a.0 a.1 a.2 a.3 a.4, from)
    where
      to : (k : ℕ) (x : Y) → k < length (ys ++ y ∷ []) → get_or (ys ++ y ∷ []) k x ≡ x → P x → Any P ys ⊎ P y
      to k x l e p = go (cases_lt k (length ys))
        where
          go : (k < length ys) ⊎ (length ys ≤ k) → Any P ys ⊎ P y
          go (inl b) = inl (k, x, b, sym (get_or_append_left ys (y ∷ []) x k b) ∙ e, p)
          go (inr b) =
              let last : k ≡ length ys = omega (arith, length-append ys (y ∷ [])) in
              let same : x ≡ y = sym e ∙ ap (λ n. get_or (ys ++ y ∷ []) n x) last ∙ get_or-append_seam ys y [] x in
              inr (subst P same p)

      from : Any P ys ⊎ P y → Any P (ys ++ y ∷ [])
      from (inl a) = let l = a.2 in (a.0, a.1, omega (arith, length-append ys (y ∷ [])), get_or_append_left ys (y ∷ []) a.1 a.0 a.2 ∙ a.3, a.4)
      from (inr p) = Any-push P ys y p

module _ {X Y : Type 0} (P : Y → Type 0) (f : X → Y) (xs : List X) (i : ℕ) (x : X) (l : i < length xs) (is : x ≡ get_or xs i x) where
  more : map f (take (i + 1) xs) ≡ map f (take i xs) ++ f x ∷ []
  more = ap (map f) (take_more xs i x l ∙ ap (λ z. take i xs ++ z ∷ []) (sym is)) ∙ map-append f (take i xs) (x ∷ [])

  -- all images of the first i + 1 items, and those of the first i and that of the item at i
  pub all_more : All P (map f (take (i + 1) xs)) ↔ (All P (map f (take i xs)) × P (f x))
  all_more = let p = all_pushed P (map f (take i xs)) (f x) in (λ a. p.0 (subst (All P) more a), λ a. subst (All P) (sym more) (p.1 a))

  -- some image of the first i + 1 items, and one of the first i or that of the item at i
  pub any_more : Any P (map f (take (i + 1) xs)) ↔ (Any P (map f (take i xs)) ⊎ P (f x))
  any_more = let p = any_pushed P (map f (take i xs)) (f x) in (λ a. p.0 (subst (Any P) more a), λ a. subst (Any P) (sym more) (p.1 a))

-- what holds of all images holds of that of the item at i
pub item_at : {X Y : Type 0} (P : Y → Type 0) (f : X → Y) (xs : List X) (i : ℕ) (x : X) → i < length xs → x ≡ get_or xs i x → All P (map f xs) → P (f x)
item_at P f xs i x l is all =
    let at : get_or (map f xs) i (f x) ≡ f x = get_or-map f xs i x (f x) l ∙ ap f (sym is) in
    subst P at (all i (f x) (omega (arith, length-map xs f)))

-- no item of none
pub any_none : {X : Type 0} (P : X → Type 0) → Any P [] → ⊥
any_none P a = let l = a.2 in omega arith
