-- Single nodes, and terms of constants.
use Rattle.std.specs.Prelude.{◌≡◌, ◌↔◌, ℕ, true, List, map}
use Rattle.data_value.specs.declared.DataSort.{DataSort}
use Rattle.data_value.specs.declared.Scalar.TheVariants.{Flag}
use Rattle.data_value.specs.declared.Value.{Value}
use Rattle.data_value.specs.declared.Value.TheVariants.{One}
use Rattle.data_value.specs.Nodes.{Seen, IsValuation}
use Rattle.data_value.specs.Values.{word_of, scalar_of}
use Rattle.sort_term.specs.declared.term.Term.{Term}
use Rattle.sort_term.specs.declared.semantics.Con.{Con}
use Rattle.sort_term.specs.Tree.{Tree, Trees}
use Rattle.sort_term.specs.Sorted.{tree_sort}
use Rattle.sort_term.specs.NodeTerms.{seen_sort, tree_of}
use Rattle.data_value.specs.Truth.{IsCondition}

-- the node is true exactly where the word that the key means has this number
pub record IsKeyTest {N : Type 0} (variables : List DataSort) (key : Seen N) (number : ℕ) (s : Seen N) : Type 0 where
  pub condition : IsCondition s
  pub exact : (v : List Value) → IsValuation variables v → (s.meaning v ≡ One (Flag true)) ↔ (word_of (scalar_of (key.meaning v)) ≡ number)

-- the term means this tree under every valuation, and is of its sort
pub record IsTreeTerm {N : Type 0} (cons : List Con) (tree : Tree) (t : Term (Seen N)) : Type 0 where
  pub sorted : seen_sort cons t ≡ tree_sort cons tree
  pub means : (v : List Value) → tree_of v t ≡ tree

-- the same of several terms
pub record AreTreeTerms {N : Type 0} (cons : List Con) (trees : Trees) (ts : List (Term (Seen N))) : Type 0 where
  pub sorted : map (seen_sort cons) ts ≡ map (tree_sort cons) trees
  pub mean : (v : List Value) → map (tree_of v) ts ≡ trees
