-- Lines of the pairs of two lists.
use Rattle.std.proofs.Common.{◌≡◌, ℕ, ◌+◌, ◌<◌, List, ◌++◌, map, min, take, get_or, length, sym, ◌∙◌, ap, arith}
use Rattle.std.specs.List.{zip}
use Rattle.std.proofs.lemmas.List.{take_all}
use Rattle.std.proofs.lemmas.Slice.Zip.{length-zip, get_or-zip}
use Rattle.report_text.specs.Lines.{line_of, lines_of}
use Rattle.report_text.proofs.Written.{lines_more}

module _ {A B : Type 0} (f : A × B → List ℕ) (xs : List A) (ys : List B) where
  -- the line of one more pair
  pub pairs_more : (n : ℕ) (x : A) (y : B) → n < length xs → n < length ys → x ≡ get_or xs n x → y ≡ get_or ys n y → (start before after : List ℕ) → before ≡ start ++ lines_of (map f (take n (zip xs ys))) → after ≡ before ++ line_of (f (x, y)) → after ≡ start ++ lines_of (map f (take (n + 1) (zip xs ys)))
  pairs_more n x y left right first second start before after a b =
      let within : n < length (zip xs ys) = omega (arith, length-zip xs ys) in
      let is : (x, y) ≡ get_or (zip xs ys) n (x, y) = ap (λ (z : A). (z, y)) first ∙ ap (λ (z : B). (get_or xs n x, z)) second ∙ sym (get_or-zip xs ys n (x, y) left right) in
      lines_more f (zip xs ys) n (x, y) within is start before after a b

  -- the lines of all pairs
  pub pairs_all : (n : ℕ) → n ≡ min (length xs) (length ys) → lines_of (map f (take n (zip xs ys))) ≡ lines_of (map f (zip xs ys))
  pairs_all n end = ap (λ ps. lines_of (map f ps)) (take_all n (zip xs ys) (omega (arith, length-zip xs ys)))
