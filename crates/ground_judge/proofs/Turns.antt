-- Runs of a list, one at a time, and what `related` tells of a pair.
use Rattle.std.proofs.Common.{arith, ◌≡◌, ℕ, zero, suc, ◌+◌, ◌<◌, ◌≤◌, List, [], ◌∷◌, ◌++◌, length, map, take, get_or, true, false, Option, Some, None, is_some, refl, sym, ap, ◌∙◌, subst, All, Any}
use Rattle.std.proofs.lemmas.List.{take_more, take_all, map-append}
use Rattle.std.proofs.lemmas.List.Elements.{All-push}
use Rattle.sort_term.specs.declared.problem.Problem.{Problem}
use Rattle.sort_term.specs.Tree.{Tree}
use Rattle.sort_term.specs.Relation.{Related}
use Rattle.ground_step.specs.declared.relation.Fit.{Fit}
use Rattle.ground_step.specs.Fit.{IsFirstFit, IsFitOf, plain_trees}

-- an image with the property
pub any_mapped : {X Y : Type 0} (P : Y → Type 0) (f : X → Y) (xs : List X) (i : ℕ) (x : X) → i < length xs → x ≡ get_or xs i x → P (f x) → Any P (map f xs)
any_mapped P f [] i x l e p = absurd (omega arith)
any_mapped P f (y ∷ xs) zero x l e p = (0, f y, omega arith, refl, subst (λ z. P (f z)) e p)
any_mapped P f (y ∷ xs) (suc i) x l e p = let r = any_mapped P f xs i x (omega arith) e p in (suc r.0, r.1, (let h = r.2 in omega arith), r.3, r.4)

module _ {X Y : Type 0} (P : Y → Type 0) (f : X → Y) (xs : List X) (i : ℕ) where
  -- one more image with the property
  pub all_more : (x : X) → i < length xs → x ≡ get_or xs i x → All P (map f (take i xs)) → P (f x) → All P (map f (take (i + 1) xs))
  all_more x l e a p =
      let q : map f (take (i + 1) xs) ≡ map f (take i xs) ++ f x ∷ [] = ap (map f) (take_more xs i x l ∙ ap (λ z. take i xs ++ z ∷ []) (sym e)) ∙ map-append f (take i xs) (x ∷ []) in
      subst (All P) (sym q) (All-push P (map f (take i xs)) (f x) a p)

-- all images, once all are among the first i
pub all_through : {X Y : Type 0} (P : Y → Type 0) (f : X → Y) (xs : List X) (i : ℕ) → length xs ≤ i → All P (map f (take i xs)) → All P (map f xs)
all_through P f xs i l a = subst (λ ys. All P (map f ys)) (take_all i xs l) a

module _ (q : Problem) (a b : Tree) where
  first_related : (fit : Fit) → IsFirstFit q a b fit → Related q a b
  first_related fit f = record { place = fit.point; point = f.point; there = f.there; valuation = plain_trees fit.values; relates = f.fits.relates }

  pub some_related : (fit : Option Fit) → IsFitOf q a b fit → is_some fit ≡ true → Related q a b
  some_related (Some fit) f e = first_related fit f
  some_related None f e = absurd (cc)

  pub none_related : (fit : Option Fit) → IsFitOf q a b fit → is_some fit ≡ false → ¬ Related q a b
  none_related (Some fit) f e = absurd (cc)
  none_related None f e = f
