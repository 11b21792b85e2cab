-- Laws of terms over nodes.
use Rattle.std.specs.Prelude.{◌≡◌, IsTrue, List, length}
use Rattle.data_value.specs.declared.DataSort.{DataSort}
use Rattle.data_value.specs.declared.Value.{Value}
use Rattle.data_value.specs.Nodes.{Seen, Extends, IsLawful, IsValuation}
use Rattle.data_value.specs.Views.{AgreeBelow}
use Rattle.data_value.specs.NodeLaws.{DependsOnVariables}
use Rattle.data_value.specs.Ground.{ground_seen}
use Rattle.sort_term.specs.declared.term.Sort.{Sort}
use Rattle.sort_term.specs.declared.term.Term.{Term}
use Rattle.sort_term.specs.declared.semantics.Con.{Con}
use Rattle.sort_term.specs.Tree.{Tree}
use Rattle.sort_term.specs.Sorted.{tree_sort, IsTreeOf}
use Rattle.sort_term.specs.NodeTerms.{seen_term, is_valid_term, seen_sort, IsTermOf, tree_of}

-- a term of valid nodes is the same term after the domain has grown
abbrev pub TermsStay : Type 0 → Type 0
TermsStay N = (before after : N → Seen N) (t : Term N) → Extends before after → IsTrue (is_valid_term (seen_term before t)) → seen_term after t ≡ seen_term before t

-- the nodes of a term that has a sort are valid
abbrev pub SortedTermsAreValid : Type 0 → Type 0
SortedTermsAreValid N = (cons : List Con) (a : Sort) (t : Term (Seen N)) → IsTermOf cons a t → IsTrue (is_valid_term t)

-- under a valuation of the domain's variables a term of a sort means a tree of that sort
abbrev pub TermsMeanTheirSorts : Type 0 → Type 0
TermsMeanTheirSorts N = (cons : List Con) (a : Sort) (look : N → Seen N) (variables : List DataSort) (t : Term N) (v : List Value) → IsLawful look variables → IsTermOf cons a (seen_term look t) → IsValuation variables v → IsTreeOf cons a (tree_of v (seen_term look t))

-- where the meanings of nodes depend on the values of the domain's variables alone, so do those of terms
abbrev pub TermsDependOnVariables : Type 0 → Type 0
TermsDependOnVariables N = (look : N → Seen N) (variables : List DataSort) → ((n : N) → DependsOnVariables look variables n) → (t : Term N) (v w : List Value) → IsTrue (is_valid_term (seen_term look t)) → AgreeBelow (length variables) v w → tree_of v (seen_term look t) ≡ tree_of w (seen_term look t)

-- where nodes are values, a term has the sort that it has as a tree
abbrev pub GroundTermsHaveTreeSorts : Type 0
GroundTermsHaveTreeSorts = (cons : List Con) (t : Tree) → seen_sort cons (seen_term ground_seen t) ≡ tree_sort cons t

-- and means itself
abbrev pub GroundTermsMeanThemselves : Type 0
GroundTermsMeanThemselves = (t : Tree) (v : List Value) → tree_of v (seen_term ground_seen t) ≡ t
