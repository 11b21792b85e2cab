-- Names declared one behind the other.
use Rattle.std.proofs.Common.{◌≡◌, ◌≢◌, ◌↔◌, ℕ, ◌+◌, ◌<◌, Bool, true, false, IsTrue, if◌then◌else◌, List, [], ◌∷◌, ◌++◌, All, map, length, take, get_or, Option, None, Some, refl, sym, ap, ◌∙◌, subst}
use Rattle.std.specs.Prelude.{AllPairs}
use Rattle.std.proofs.lemmas.List.{map_more, take_more}
use Rattle.std.proofs.lemmas.List.Elements.{All-push}
use Rattle.std.proofs.lemmas.List.Quantifiers.{all_pairs_push}
use Rattle.sort_term.specs.Names.{AreDistinct}
use Rattle.sort_term.proofs.Distinct.{distinct-not}
use Rattle.name_resolution.specs.Names.{place_of, IsNew}
use Rattle.name_resolution.proofs.Places.{apart_from_new, one_of_name}

module _ {X : Type 0} (key : X → List ℕ) (xs : List X) (i : ℕ) (x : X) (within : i < length xs) (is : x ≡ get_or xs i x) where
  with_one_more : take (i + 1) xs ≡ take i xs ++ x ∷ []
  with_one_more = take_more xs i x within ∙ ap (λ y. take i xs ++ y ∷ []) (sym is)

  not_old : AreDistinct key xs → ¬ ¬ IsNew (key x) (map key (take i xs))
  not_old distinct old = distinct-not key xs i x (key x) within is refl (one_of_name key (key x) (take i xs) old) distinct

  module _ (names : List (List ℕ)) (so_far : names ≡ map key (take i xs)) where
    -- where no two names are the same, each is new
    pub new_of_distinct : AreDistinct key xs → IsNew (key x) names
    new_of_distinct distinct = by (place_of (key x) names) refl
      where
        by : (o : Option ℕ) → place_of (key x) names ≡ o → o ≡ None
        by None e = refl
        by (Some j) e = absurd (not_old distinct (λ new. let clash : Some j ≡ None = sym e ∙ ap (place_of (key x)) so_far ∙ new in absurd cc))

    -- the names with one more
    pub names_more : (word : List ℕ) (more : List (List ℕ)) → word ≡ key x → more ≡ names ++ word ∷ [] → more ≡ map key (take (i + 1) xs)
    names_more word more is_name added =
        added ∙ ap (λ n. names ++ n ∷ []) is_name ∙ ap (λ ns. ns ++ key x ∷ []) so_far ∙ ap (λ y. map key (take i xs) ++ key y ∷ []) is ∙ sym (map_more key xs i x within)

    -- no two of them are the same, if the last one is new
    pub distinct_more : IsNew (key x) names → AreDistinct key (take i xs) → AreDistinct key (take (i + 1) xs)
    distinct_more new distinct =
        subst (AllPairs (λ a b. key a ≢ key b)) (sym with_one_more)
        (all_pairs_push (λ a b. key a ≢ key b) (take i xs) x distinct (apart_from_new key (key x) (take i xs) (ap (place_of (key x)) (sym so_far) ∙ new)))

  -- a fact of each and of one more
  pub all_more : (P : X → Type 0) → All P (take i xs) → P x → All P (take (i + 1) xs)
  all_more P all here = subst (All P) (sym with_one_more) (All-push P (take i xs) x all here)

-- what is told of a new name
pub if_new : {X : Type 0} (b : Bool) (P : Type 0) (x y z : X) → (IsTrue b ↔ P) → P → x ≡ (if b then y else z) → x ≡ y
if_new true P x y z told new e = e
if_new false P x y z told new e = let clash : false ≡ true = told.1 new in absurd cc

pub no_new : (b : Bool) (P : Type 0) → (IsTrue b ↔ P) → b ≡ false → ¬ P
no_new b P told not_so new = let clash : false ≡ true = sym not_so ∙ told.1 new in absurd cc
