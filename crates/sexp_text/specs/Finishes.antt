-- How a list ends.
use Rattle.std.specs.Prelude.{◌≡◌, ℕ, [], ◌∷◌, ◌++◌, Bool, true, false}
use Rattle.sexp_text.specs.Forms.{list_form}
use Rattle.sexp_text.specs.declared.tree.Open.{Open}
use Rattle.sexp_text.specs.declared.tree.Tree.{Tree}

-- the innermost list was closed at the place end, or none was open
abbrev pub Finishes : Bool → Tree → ℕ → Tree → Type 0
Finishes false old end new = (old.outer ≡ []) × (new ≡ old)
Finishes true old end new = (last : Open) × (old.outer ≡ new.outer ++ last ∷ []) × (new.forms ≡ last.before ++ list_form old.forms last.start end ∷ [])
