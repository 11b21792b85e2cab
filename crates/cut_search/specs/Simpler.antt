-- Terms over simpler nodes.
use Rattle.std.specs.Prelude.{◌≡◌, IsTrue, List, map}
use Rattle.std.specs.List.{list_all}
use Rattle.data_value.specs.declared.DataSort.{DataSort}
use Rattle.data_value.specs.declared.Value.{Value}
use Rattle.data_value.specs.Nodes.{Seen, IsValuation}
use Rattle.sort_term.specs.declared.term.Term.{Term}
use Rattle.sort_term.specs.declared.semantics.Con.{Con}
use Rattle.sort_term.specs.NodeTerms.{is_valid_term, seen_sort, tree_of}
use Rattle.path_condition.specs.Leaves.{SeenLeaf}

-- u is of the sort of t, whatever the constructors, and means the same under every valuation of the variables
pub record IsSimplerTerm {N : Type 0} (variables : List DataSort) (t u : Term (Seen N)) : Type 0 where
  pub valid : IsTrue (is_valid_term u)
  pub sorted : (cons : List Con) → seen_sort cons u ≡ seen_sort cons t
  pub means : (v : List Value) → IsValuation variables v → tree_of v u ≡ tree_of v t

-- the same of several terms, place by place
pub record AreSimplerTerms {N : Type 0} (variables : List DataSort) (ts us : List (Term (Seen N))) : Type 0 where
  pub valid : IsTrue (list_all is_valid_term us)
  pub sorted : (cons : List Con) → map (seen_sort cons) us ≡ map (seen_sort cons) ts
  pub mean : (v : List Value) → IsValuation variables v → map (tree_of v) us ≡ map (tree_of v) ts

-- the leaf m is l with a simpler state
pub record IsSimplerLeaf {N : Type 0} (variables : List DataSort) (l m : SeenLeaf N) : Type 0 where
  pub condition : m.condition ≡ l.condition
  pub state : IsSimplerTerm variables l.state m.state
  pub rules : m.rules ≡ l.rules
