-- Where names stand, and that new ones stand nowhere.
use Rattle.std.proofs.Common.{arith, suc, ◌||◌, ◌+◌, ◌≡◌, ◌≢◌, ℕ, ◌<◌, Bool, true, false, cond, List, [], ◌∷◌, map, length, get_or, position, is_some, Option, None, Some, refl, sym, ap, ap₂, ◌∙◌}
use Rattle.std.specs.Prelude.{bytes_eq, nat_lt, not, Any}
use Rattle.std.specs.List.{list_any, position_or_len}
use Rattle.std.proofs.lemmas.List.{length-map, get_or_default}
use Rattle.std.proofs.lemmas.List.Folds.{Any-from_list_any, list_any-from_Any}
use Rattle.std.proofs.lemmas.Bool.Decides.{nat_tests}
use Rattle.std.proofs.lemmas.Slice.Eq.{bytes_eq-Decides}
use Rattle.name_resolution.specs.Names.{place_of, IsNew}

module _ {X Y : Type 0} (f : X → Y) (p : Y → Bool) where
  first-map : (xs : List X) → position_or_len p (map f xs) ≡ position_or_len (λ x. p (f x)) xs
  first-map [] = refl
  first-map (x ∷ xs) = ap (λ n. cond (not (p (f x))) (1 + n) 0) (first-map xs)

  -- the first place by what the values are seen as
  pub position-map : (xs : List X) → position p (map f xs) ≡ position (λ x. p (f x)) xs
  position-map xs = ap₂ (λ n m. cond (nat_lt n m) (Some n) None) (first-map xs) (length-map xs f)

first : (n : ℕ) → nat_lt 0 (suc n) ≡ true
first n = grind (arith, nat_tests)

one_more : (a b : ℕ) → nat_lt (1 + a) (suc b) ≡ nat_lt a b
one_more a b = grind (arith, nat_tests)

module _ {X : Type 0} (p : X → Bool) where
  there : (xs : List X) → nat_lt (position_or_len p xs) (length xs) ≡ list_any p xs
  there [] = refl
  there (x ∷ xs) = by (p x) (there xs)
    where
      by : (b : Bool) → nat_lt (position_or_len p xs) (length xs) ≡ list_any p xs → nat_lt (cond (not b) (1 + position_or_len p xs) 0) (suc (length xs)) ≡ (b || list_any p xs)
      by true rest = first (length xs)
      by false rest = one_more (position_or_len p xs) (length xs) ∙ rest

  -- a value has a place where one passes
  pub has_place : (xs : List X) → is_some (position p xs) ≡ list_any p xs
  has_place xs = by (nat_lt (position_or_len p xs) (length xs)) ∙ there xs
    where
      by : (b : Bool) → is_some (cond b (Some (position_or_len p xs)) None) ≡ b
      by true = refl
      by false = refl

is_none : {X : Type 0} (o : Option X) → is_some o ≡ false → o ≡ None
is_none None h = refl
is_none (Some x) h = absurd cc

module _ {X : Type 0} (key : X → List ℕ) (name : List ℕ) (xs : List X) where
  has_name : is_some (place_of name (map key xs)) ≡ list_any (λ x. bytes_eq name (key x)) xs
  has_name = ap is_some (position-map key (bytes_eq name) xs) ∙ has_place (λ x. bytes_eq name (key x)) xs

  -- a name that nothing has is new
  pub new_name : list_any (λ x. bytes_eq name (key x)) xs ≡ false → IsNew name (map key xs)
  new_name none = is_none _ (has_name ∙ none)

  -- a name that something has is not
  pub old_name : list_any (λ x. bytes_eq name (key x)) xs ≡ true → place_of name (map key xs) ≢ None
  old_name some new = let clash : false ≡ true = sym (ap is_some new) ∙ has_name ∙ some in absurd cc

  -- each has another name than a new one
  pub apart_from_new : IsNew name (map key xs) → (k : ℕ) (d : X) → k < length xs → key (get_or xs k d) ≢ name
  apart_from_new new k d within same =
      let found : list_any (λ x. bytes_eq name (key x)) xs ≡ true = list_any-from_Any (λ x. bytes_eq name (key x)) xs (k, get_or xs k d, within, get_or_default xs k _ d within, (bytes_eq-Decides name (key (get_or xs k d))).1 (sym same)) in
      old_name found new

  -- something has a name that is not new
  pub one_of_name : place_of name (map key xs) ≢ None → Any (λ x. key x ≡ name) xs
  one_of_name old = by (list_any (λ x. bytes_eq name (key x)) xs) refl
    where
      by : (b : Bool) → list_any (λ x. bytes_eq name (key x)) xs ≡ b → Any (λ x. key x ≡ name) xs
      by false none = absurd (old (new_name none))
      by true some =
          let found = Any-from_list_any (λ x. bytes_eq name (key x)) xs some in
          (found.0, found.1, found.2, found.3, sym ((bytes_eq-Decides name (key found.1)).0 found.4))

-- a place is among the names
pub place_within : (name : List ℕ) (names : List (List ℕ)) (k : ℕ) → place_of name names ≡ Some k → k < length names
place_within name names k e = by (position_or_len (bytes_eq name) names) (length names) e
  where
    by : (n m : ℕ) → cond (nat_lt n m) (Some n) None ≡ Some k → k < m
    by n m h = grind (arith, nat_tests)
