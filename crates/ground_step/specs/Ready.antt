-- What must be bound before an expression is evaluated.
use Rattle.std.specs.Prelude.{◌≡◌, ℕ, IsTrue, IsSome, List, slice_get, Option, Some}
use Rattle.sort_term.specs.declared.semantics.Con.{Con}
use Rattle.sort_term.specs.declared.rule.Var.{Var}
use Rattle.sort_term.specs.declared.rule.RuleExpr.{RuleExpr}
use Rattle.sort_term.specs.Tree.{Tree}
use Rattle.sort_term.specs.Sorted.{tree_sort, var_sort, expr_sort}
use Rattle.sort_term.specs.Stands.{reads}
use Rattle.unify.specs.Binds.{IsBound, AreBinds}
use Rattle.ground_step.specs.GroundBinds.{ground_binds}

-- the variable is bound to a tree of its sort
pub record IsKnown (cons : List Con) (vars : List Var) (bound : List (Option Tree)) (i : ℕ) : Type 0 where
  pub tree : Tree
  pub there : slice_get bound i ≡ Some (Some tree)
  pub sorted : tree_sort cons tree ≡ var_sort vars i

-- for some variables, each of which has a tree of its sort where it is bound, the expression is well sorted and reads only bound ones
pub record IsEvaluable (cons : List Con) (bound : List (Option Tree)) (e : RuleExpr) : Type 0 where
  pub vars : List Var
  pub binds : AreBinds cons vars (ground_binds bound)
  pub sorted : IsSome (expr_sort cons vars e)
  pub known : (i : ℕ) → IsTrue (reads i e) → IsBound (ground_binds bound) i
