-- Whether parts have sorts, place by place.
use Rattle.std.proofs.Common.{◌≡◌, ℕ, suc, ◌+◌, ◌<◌, Bool, true, false, ◌&&◌, List, [], ◌∷◌, length, map, drop, get_or, Option, refl, sym, ap, ◌∙◌, add-one}
use Rattle.std.proofs.Math.Seq.{drop-cons}
use Rattle.sort_term.specs.declared.term.Sort.{Sort}
use Rattle.sort_term.specs.Sorted.{has_sort, have_sorts}

module _ {A : Type 0} (f : A → Option Sort) where
  -- lists of different lengths don't fit
  pub have-other_length : (parts : List A) (sorts : List Sort) → (length parts ≡ length sorts → ⊥) → have_sorts (map f parts) sorts ≡ false
  have-other_length [] [] h = absurd (h refl)
  have-other_length [] (b ∷ rest) h = refl
  have-other_length (a ∷ more) [] h = refl
  have-other_length (a ∷ more) (b ∷ rest) h =
      ap (λ r. has_sort (f a) b && r) (have-other_length more rest (λ e. h (ap suc e))) ∙ and_false (has_sort (f a) b)
    where
      and_false : (x : Bool) → (x && false) ≡ false
      and_false true = refl
      and_false false = refl

  module _ (parts : List A) (sorts : List Sort) (i : ℕ) (x : A) (d : Sort) (o : Option Sort) (b : Bool) (l : i < length parts) (m : i < length sorts) (e : x ≡ get_or parts i x) (s : o ≡ f x) (h : b ≡ has_sort o (get_or sorts i d)) where
    -- what is left from place i on is the item there and what is left after it
    pub have-from : have_sorts (map f (drop i parts)) (drop i sorts) ≡ (b && have_sorts (map f (drop (i + 1) parts)) (drop (i + 1) sorts))
    have-from =
        let p : drop i parts ≡ x ∷ drop (i + 1) parts = drop-cons parts i x l ∙ ap (λ y. y ∷ drop (suc i) parts) (sym e) ∙ ap (λ n. x ∷ drop n parts) (sym (add-one i)) in
        let q : drop i sorts ≡ get_or sorts i d ∷ drop (i + 1) sorts = drop-cons sorts i d m ∙ ap (λ n. get_or sorts i d ∷ drop n sorts) (sym (add-one i)) in
        let k : has_sort (f x) (get_or sorts i d) ≡ b = ap (λ r. has_sort r (get_or sorts i d)) (sym s) ∙ sym h in
        ap (λ ps. have_sorts (map f ps) (drop i sorts)) p ∙ ap (λ ss. have_sorts (map f (x ∷ drop (i + 1) parts)) ss) q ∙ ap (λ y. y && have_sorts (map f (drop (i + 1) parts)) (drop (i + 1) sorts)) k

    pub have-stops : b ≡ false → have_sorts (map f (drop i parts)) (drop i sorts) ≡ false
    have-stops n = have-from ∙ ap (λ y. y && have_sorts (map f (drop (i + 1) parts)) (drop (i + 1) sorts)) n

    pub have-goes : b ≡ true → have_sorts (map f (drop i parts)) (drop i sorts) ≡ have_sorts (map f (drop (i + 1) parts)) (drop (i + 1) sorts)
    have-goes y = have-from ∙ ap (λ z. z && have_sorts (map f (drop (i + 1) parts)) (drop (i + 1) sorts)) y
