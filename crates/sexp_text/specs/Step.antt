-- What one step of the reader does.
use Rattle.std.specs.Prelude.{◌≡◌, ◌<◌, ◌≤◌, ℕ, List, false, length}
use Rattle.sexp_text.specs.Places.{commented}
use Rattle.sexp_text.specs.Open.{IsReadFrom}
use Rattle.sexp_text.specs.Clear.{IsClear}
use Rattle.sexp_text.specs.declared.tree.Tree.{Tree}

-- a step to a place outside comments, up to which the tree has all
pub record IsStep (bytes : List ℕ) (at next : ℕ) (tree : Tree) : Type 0 where
  pub forth : at < next
  pub within : next ≤ length bytes
  pub outside : commented bytes next ≡ false
  pub read : IsReadFrom bytes 0 tree.outer tree.forms next
  pub clear : IsClear bytes (length tree.outer) next
