-- The ground terms that a text writes for a semantics.
use Rattle.std.specs.Prelude.{◌≡◌, Option, Some, None}
use Rattle.rule_text.specs.declared.item.RawTree.{RawTree}
use Rattle.sort_term.specs.declared.term.Sort.{Sort}
use Rattle.sort_term.specs.Sorted.{IsTreeOf}
use Rattle.sort_term.specs.System.{System}
use Rattle.sort_term.specs.Tree.{Tree}
use Rattle.name_resolution.specs.Known.{vocabulary_in}
use Rattle.name_resolution.specs.Reads.{ground_of}

-- the ground term that is written, where it is of this sort; none where there is no such
abbrev pub IsSortedTerm : System → Sort → RawTree → Option Tree → Type 0
IsSortedTerm s a raw (Some term) = (ground_of (vocabulary_in s) raw ≡ Some term) × IsTreeOf s.cons a term
IsSortedTerm s a raw None = (term : Tree) → ground_of (vocabulary_in s) raw ≡ Some term → ¬ IsTreeOf s.cons a term
