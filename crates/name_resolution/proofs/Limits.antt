-- Limits of arguments, one behind the other.
use Rattle.std.proofs.Common.{arith, ◌≡◌, ℕ, zero, suc, ◌+◌, ◌<◌, Bool, true, false, ◌&&◌, List, [], ◌∷◌, map, length, take, get_or, slice_get, None, Some, refl, sym, ap, ap₂, ◌∙◌}
use Rattle.sort_term.specs.declared.term.Sort.{Sort}
use Rattle.name_resolution.specs.Within.{Asked, is_within_place, are_within_places}

one_and : (a : Bool) → (a && true) ≡ a
one_and true = refl
one_and false = refl

and_assoc : (a b c : Bool) → (a && (b && c)) ≡ ((a && b) && c)
and_assoc true b c = refl
and_assoc false b c = refl

and_false : (a : Bool) → (a && false) ≡ false
and_false true = refl
and_false false = refl

module _ {R : Type 0} (says : R → Asked) where
  next : (sorts : List Sort) (raws : List R) (i : ℕ) (raw : R) → i < length raws → raw ≡ get_or raws i raw → are_within_places sorts (map says (take (suc i) raws)) ≡ (are_within_places sorts (map says (take i raws)) && is_within_place (slice_get sorts i) (says raw))
  next sorts [] i raw within is = absurd (omega arith)
  next [] (r ∷ raws) zero raw within is = one_and (is_within_place None (says r)) ∙ ap (λ t. is_within_place None (says t)) (sym is)
  next (a ∷ sorts) (r ∷ raws) zero raw within is = one_and (is_within_place (Some a) (says r)) ∙ ap (λ t. is_within_place (Some a) (says t)) (sym is)
  next [] (r ∷ raws) (suc i) raw within is =
      ap (λ b. is_within_place None (says r) && b) (next [] raws i raw (omega arith) is)
      ∙ and_assoc (is_within_place None (says r)) (are_within_places [] (map says (take i raws))) (is_within_place None (says raw))
  next (a ∷ sorts) (r ∷ raws) (suc i) raw within is =
      ap (λ b. is_within_place (Some a) (says r) && b) (next sorts raws i raw (omega arith) is)
      ∙ and_assoc (is_within_place (Some a) (says r)) (are_within_places sorts (map says (take i raws))) (is_within_place (slice_get sorts i) (says raw))

  -- one more argument that keeps the limits
  pub places_more : (sorts : List Sort) (raws : List R) (i : ℕ) (raw : R) → i < length raws → raw ≡ get_or raws i raw → are_within_places sorts (map says (take i raws)) ≡ true → is_within_place (slice_get sorts i) (says raw) ≡ true → are_within_places sorts (map says (take (i + 1) raws)) ≡ true
  places_more sorts raws i raw within is so_far here =
      let count : i + 1 ≡ suc i = omega arith in
      ap (λ n. are_within_places sorts (map says (take n raws))) count
      ∙ next sorts raws i raw within is
      ∙ ap₂ ◌&&◌ so_far here

  -- one that doesn't
  pub places_not : (sorts : List Sort) (raws : List R) (i : ℕ) (raw : R) → i < length raws → raw ≡ get_or raws i raw → is_within_place (slice_get sorts i) (says raw) ≡ false → are_within_places sorts (map says raws) ≡ false
  places_not sorts [] i raw within is here = absurd (omega arith)
  places_not [] (r ∷ raws) zero raw within is here = ap (λ b. b && are_within_places [] (map says raws)) (ap (λ t. is_within_place None (says t)) (sym is) ∙ here)
  places_not (a ∷ sorts) (r ∷ raws) zero raw within is here = ap (λ b. b && are_within_places sorts (map says raws)) (ap (λ t. is_within_place (Some a) (says t)) (sym is) ∙ here)
  places_not [] (r ∷ raws) (suc i) raw within is here = ap (λ b. is_within_place None (says r) && b) (places_not [] raws i raw (omega arith) is here) ∙ and_false (is_within_place None (says r))
  places_not (a ∷ sorts) (r ∷ raws) (suc i) raw within is here = ap (λ b. is_within_place (Some a) (says r) && b) (places_not sorts raws i raw (omega arith) is here) ∙ and_false (is_within_place (Some a) (says r))
