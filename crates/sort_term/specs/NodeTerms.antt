-- Terms over the nodes of a domain, as terms over what these nodes are.
use Rattle.std.specs.Prelude.{◌≡◌, Bool, if◌then◌else◌, List, Option, Some, None}
use Rattle.std.specs.List.{list_all}
use Rattle.data_value.specs.declared.Value.{Value}
use Rattle.data_value.specs.Nodes.{Seen}
use Rattle.sort_term.specs.declared.term.Sort.{Sort}
use Rattle.sort_term.specs.declared.term.Sort.TheVariants.{Plain}
use Rattle.sort_term.specs.declared.term.Term.{Term, fold-Term}
use Rattle.sort_term.specs.declared.term.Term.TheOpen.{Term-F}
use Rattle.sort_term.specs.declared.semantics.Con.{Con}
use Rattle.sort_term.specs.Tree.{Tree}
use Rattle.sort_term.specs.Meaning.{map_term, tree_under}
use Rattle.sort_term.specs.Sorted.{term_sort}

-- the term with each node seen as all that it is
abbrev pub seen_term : {N : Type 0} → (N → Seen N) → Term N → Term (Seen N)
seen_term look = map_term look

-- whether every node of a term is valid
abbrev pub valid_step : {N : Type 0} → Term-F (Seen N) Bool → Bool
valid_step (Term-F.Con c parts) = list_all (λ part. part) parts
valid_step (Term-F.Plain s) = s.valid

abbrev pub is_valid_term : {N : Type 0} → Term (Seen N) → Bool
is_valid_term {N} = fold-Term (Seen N) Bool valid_step

-- a valid node has its sort
abbrev pub node_sort : {N : Type 0} → Seen N → Option Sort
node_sort s = if s.valid then Some (Plain s.sort) else None

-- the sort of a term over nodes, in which the sorts of the nodes count
abbrev pub seen_sort : {N : Type 0} → List Con → Term (Seen N) → Option Sort
seen_sort cons = term_sort cons node_sort

-- a term over nodes of a sort
pub record IsTermOf {N : Type 0} (cons : List Con) (a : Sort) (t : Term (Seen N)) : Type 0 where
  pub is : seen_sort cons t ≡ Some a

-- the tree that a term means where the domain's variables have these values
abbrev pub tree_of : {N : Type 0} → List Value → Term (Seen N) → Tree
tree_of v = tree_under (λ s. s.meaning v)
