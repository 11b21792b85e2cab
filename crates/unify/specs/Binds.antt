-- Variables that are bound to terms over nodes, and the value of an expression over them.
use Rattle.std.specs.Prelude.{◌≡◌, ℕ, List, map, length, slice_index_or, IsTrue, Option, Some, None, IsSome, option_map, option_and_then}
use Rattle.data_value.specs.declared.Value.{Value}
use Rattle.data_value.specs.Nodes.{Seen}
use Rattle.sort_term.specs.declared.term.Sort.{Sort}
use Rattle.sort_term.specs.declared.term.Term.{Term}
use Rattle.sort_term.specs.declared.term.Term.TheVariants.{Plain}
use Rattle.sort_term.specs.declared.semantics.Con.{Con}
use Rattle.sort_term.specs.declared.rule.Var.{Var}
use Rattle.sort_term.specs.declared.rule.RuleExpr.{RuleExpr}
use Rattle.sort_term.specs.Tree.{Trees, tree_at, value}
use Rattle.sort_term.specs.Sorted.{var_sort, expr_sort_where}
use Rattle.sort_term.specs.NodeTerms.{seen_term, is_valid_term, seen_sort, tree_of}

-- a term that is a node
abbrev pub IsNode : {N : Type 0} → Term N → Type 0
IsNode {N} t = (n : N) × (t ≡ Plain n)

-- for each variable its term, where it is bound
abbrev pub Bound : Type 0 → Type 0
Bound N = List (Option (Term (Seen N)))

-- bound variables, with each node of their terms seen as all that it is
abbrev pub seen_binds : {N : Type 0} → (N → Seen N) → List (Option (Term N)) → Bound N
seen_binds look binds = map (option_map (seen_term look)) binds

-- the term of the variable i, where it is bound
abbrev pub bound_at : {X : Type 0} → List (Option X) → ℕ → Option X
bound_at binds i = slice_index_or binds i None

-- the variable i is bound
abbrev pub IsBound : {X : Type 0} → List (Option X) → ℕ → Type 0
IsBound binds i = IsSome (bound_at binds i)

-- the sort of the term of the variable i, where it is bound
abbrev pub bound_sort : {N : Type 0} → List Con → Bound N → ℕ → Option Sort
bound_sort cons binds i = option_and_then (seen_sort cons) (bound_at binds i)

-- the nodes of the bound terms are valid
pub record AreValid {N : Type 0} (binds : Bound N) : Type 0 where
  pub at : (i : ℕ) (t : Term (Seen N)) → bound_at binds i ≡ Some t → IsTrue (is_valid_term t)

-- for each of the variables a term of its sort, where it is bound
pub record AreBinds {N : Type 0} (cons : List Con) (vars : List Var) (binds : Bound N) : Type 0 where
  pub long : length binds ≡ length vars
  pub sorted : (i : ℕ) (t : Term (Seen N)) → bound_at binds i ≡ Some t → seen_sort cons t ≡ var_sort vars i

-- where the domain's variables have the values v, the valuation w gives each bound variable the tree that its term means
pub record Agrees {N : Type 0} (v : List Value) (binds : Bound N) (w : Trees) : Type 0 where
  pub at : (i : ℕ) (t : Term (Seen N)) → bound_at binds i ≡ Some t → tree_at w i ≡ tree_of v t

-- the term is of the expression's sort and means its value, where each variable has the sort and the value of its term
pub record Gives {N : Type 0} (cons : List Con) (binds : Bound N) (e : RuleExpr) (t : Term (Seen N)) : Type 0 where
  pub sorted : seen_sort cons t ≡ expr_sort_where cons (bound_sort cons binds) e
  pub means : (v : List Value) (w : Trees) → Agrees v binds w → value w e ≡ tree_of v t

-- the same of several expressions
pub record GiveAll {N : Type 0} (cons : List Con) (binds : Bound N) (es : List RuleExpr) (ts : List (Term (Seen N))) : Type 0 where
  pub sorted : map (seen_sort cons) ts ≡ map (expr_sort_where cons (bound_sort cons binds)) es
  pub mean : (v : List Value) (w : Trees) → Agrees v binds w → map (value w) es ≡ map (tree_of v) ts
