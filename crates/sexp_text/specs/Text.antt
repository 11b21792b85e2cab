-- Which texts are in the grammar.
use Rattle.std.specs.Prelude.{◌≤◌, ℕ, List, map, length}
use Rattle.sexp_text.specs.Forms.{greatest, depth_of}
use Rattle.sexp_text.specs.Spells.{Spells}
use Rattle.sexp_text.specs.declared.form.Form.{Form}

-- the text is in the grammar with these forms: it is short, spells them, and nests lists at most 64 deep
pub record IsText (bytes : List ℕ) (forms : List Form) : Type 0 where
  pub short : length bytes ≤ 1048576
  pub spelled : Spells bytes forms 0 (length bytes)
  pub shallow : greatest (map depth_of forms) ≤ 64
