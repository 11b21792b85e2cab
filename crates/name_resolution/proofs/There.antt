-- Lists of values that are all there, one behind the other.
use Rattle.std.proofs.Common.{arith, ◌≡◌, ℕ, zero, suc, ◌+◌, ◌<◌, List, [], ◌∷◌, ◌++◌, map, length, take, get_or, Option, None, Some, sym, ap, ◌∙◌}
use Rattle.sort_term.specs.Sorted.{in_front, all_there}
use Rattle.name_resolution.proofs.Arguments.{behind, one-behind, front-behind, front-none, none-front}

module _ {R X : Type 0} (f : R → Option X) where
  next : (raws : List R) (i : ℕ) (raw : R) → i < length raws → raw ≡ get_or raws i raw → all_there (map f (take (suc i) raws)) ≡ behind (all_there (map f (take i raws))) (f raw)
  next [] i raw within is = absurd (omega arith)
  next (r ∷ raws) zero raw within is = one-behind (f r) ∙ ap (λ t. behind (Some []) (f t)) (sym is)
  next (r ∷ raws) (suc i) raw within is = ap (in_front (f r)) (next raws i raw (omega arith) is) ∙ front-behind (f r) (all_there (map f (take i raws))) (f raw)

  -- one more value
  pub there-pushed : (raws : List R) (i : ℕ) (raw : R) (so_far more : List X) (x : X) → i < length raws → raw ≡ get_or raws i raw → all_there (map f (take i raws)) ≡ Some so_far → f raw ≡ Some x → more ≡ so_far ++ x ∷ [] → all_there (map f (take (i + 1) raws)) ≡ Some more
  there-pushed raws i raw so_far more x within is before here pushed =
      let count : i + 1 ≡ suc i = omega arith in
      ap (λ n. all_there (map f (take n raws))) count
      ∙ next raws i raw within is
      ∙ ap (λ o. behind o (f raw)) before
      ∙ ap (behind (Some so_far)) here
      ∙ ap Some (sym pushed)

  -- one that is missing
  pub there-not : (raws : List R) (i : ℕ) (raw : R) → i < length raws → raw ≡ get_or raws i raw → f raw ≡ None → all_there (map f raws) ≡ None
  there-not [] i raw within is here = absurd (omega arith)
  there-not (r ∷ raws) zero raw within is here = ap (λ o. in_front o (all_there (map f raws))) (ap f (sym is) ∙ here) ∙ none-front (all_there (map f raws))
  there-not (r ∷ raws) (suc i) raw within is here = ap (in_front (f r)) (there-not raws i raw (omega arith) is here) ∙ front-none (f r)
