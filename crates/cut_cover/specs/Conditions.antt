-- Conditions of an item, where its variables are bound to terms over nodes.
use Rattle.std.specs.Prelude.{◌≡◌, ◌↔◌, true, List, Some}
use Rattle.data_value.specs.declared.DataSort.TheVariants.{Bool as BoolSort}
use Rattle.data_value.specs.declared.Value.{Value}
use Rattle.data_value.specs.Nodes.{Seen}
use Rattle.data_value.specs.Truth.{IsCondition, truth}
use Rattle.sort_term.specs.declared.term.Sort.TheVariants.{Plain}
use Rattle.sort_term.specs.declared.semantics.Con.{Con}
use Rattle.sort_term.specs.declared.rule.RuleExpr.{RuleExpr}
use Rattle.sort_term.specs.Tree.{Trees}
use Rattle.sort_term.specs.Sorted.{expr_sort_where}
use Rattle.unify.specs.Binds.{Bound, bound_sort, Agrees}

-- An expression of sort bool, where each variable has the sort of the term that it is bound to.
pub record IsBoundCondition {N : Type 0} (cons : List Con) (binds : Bound N) (e : RuleExpr) : Type 0 where
  pub sorted : expr_sort_where cons (bound_sort cons binds) e ≡ Some (Plain BoolSort)

-- A condition that is true exactly where P holds of the valuations that give each bound variable the tree that its term means.
pub record IsTrueWhere {N : Type 0} (binds : Bound N) (P : Trees → Type 0) (s : Seen N) : Type 0 where
  pub condition : IsCondition s
  pub exact : (v : List Value) (w : Trees) → Agrees v binds w → (truth s v ≡ true) ↔ P w
