-- What goes together in statements on rules over nodes.
use Rattle.std.specs.Prelude.{List}
use Rattle.data_value.specs.declared.DataSort.{DataSort}
use Rattle.sort_term.specs.declared.rule.Rule.{Rule}
use Rattle.sort_term.specs.declared.rule.Var.{Var}
use Rattle.sort_term.specs.declared.semantics.Con.{Con}
use Rattle.sort_term.specs.System.{System}
use Rattle.sort_term.specs.Step.{Tables}

-- the constructors of a semantics, the variables of a rule and the sorts of the domain's variables
pub record Scope : Type 0 where
  pub cons : List Con
  pub vars : List Var
  pub variables : List DataSort

abbrev pub scope_of : List Con → List Var → List DataSort → Scope
scope_of cons vars variables = record { cons = cons; vars = vars; variables = variables }

-- a semantics, its program, the sorts of the domain's variables and one of the rules
pub record RuleScope : Type 0 where
  pub sys : System
  pub tables : Tables
  pub variables : List DataSort
  pub rule : Rule

abbrev pub rule_scope_of : System → Tables → List DataSort → Rule → RuleScope
rule_scope_of sys tables variables r = record { sys = sys; tables = tables; variables = variables; rule = r }

-- what a call changes, before it and after it
pub record Change (X : Type 0) : Type 0 where
  pub old : X
  pub new : X

abbrev pub change_of : {X : Type 0} → X → X → Change X
change_of old new = record { old = old; new = new }
