-- The first row with a name.
use Rattle.std.proofs.Common.{◌≡◌, ℕ, ◌+◌, ◌<◌, true, false, List, ◌∷◌, map, length, drop, get_or, Option, Some, sym, ap, ◌∙◌}
use Rattle.std.specs.Prelude.{bytes_eq, if◌then◌else◌}
use Rattle.std.proofs.lemmas.List.{at_drop_more}
use Rattle.data_value.specs.declared.Op.{Op}
use Rattle.name_resolution.specs.Operators.{first_named}

module _ {R : Type 0} (row_of : R → List ℕ × Op) (name : List ℕ) (rows : List R) (i : ℕ) (row : R) (within : i < length rows) (is : row ≡ get_or rows i row) where
  abbrev from_here : List R → Option Op
  from_here left = first_named name (map row_of left)

  here : from_here (drop i rows) ≡ (if bytes_eq (row_of row).0 name then Some (row_of row).1 else from_here (drop (i + 1) rows))
  here = at_drop_more from_here rows i row within ∙ ap (λ r. from_here (r ∷ drop (i + 1) rows)) (sym is)

  -- the row has the name
  pub named_here : bytes_eq (row_of row).0 name ≡ true → first_named name (map row_of (drop i rows)) ≡ Some (row_of row).1
  named_here same = here ∙ ap (λ b. if b then Some (row_of row).1 else from_here (drop (i + 1) rows)) same

  -- it hasn't
  pub named_later : bytes_eq (row_of row).0 name ≡ false → first_named name (map row_of (drop i rows)) ≡ first_named name (map row_of (drop (i + 1) rows))
  named_later other = here ∙ ap (λ b. if b then Some (row_of row).1 else from_here (drop (i + 1) rows)) other
