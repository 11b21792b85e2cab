-- Trees, and the value of a pattern and of an expression under a valuation.
--
-- A fold goes through a tree, pattern or expression: its line for a form has, in place of each part, what the fold gave for that part.
use Rattle.std.specs.Prelude.{◌≡◌, ℕ, true, false, List, map, slice_index_or}
use Rattle.data_value.specs.declared.Scalar.TheVariants.{Flag}
use Rattle.data_value.specs.declared.Value.{Value}
use Rattle.data_value.specs.declared.Value.TheVariants.{One}
use Rattle.data_value.specs.Ops.{op_value}
use Rattle.sort_term.specs.declared.term.Term.{Term, fold-Term}
use Rattle.sort_term.specs.declared.term.Term.TheOpen.{Term-F}
use Rattle.sort_term.specs.declared.term.Term.TheVariants.{Con, Plain}
use Rattle.sort_term.specs.declared.rule.Pattern.{Pattern, fold-Pattern}
use Rattle.sort_term.specs.declared.rule.Pattern.TheOpen.{Pattern-F}
use Rattle.sort_term.specs.declared.rule.RuleExpr.{RuleExpr, fold-RuleExpr}
use Rattle.sort_term.specs.declared.rule.RuleExpr.TheOpen.{RuleExpr-F}

-- a tree is a value, or a constructor with a list of trees
abbrev pub Tree : Type 0
Tree = Term Value

-- a valuation has a tree for each variable, in the variables' order
abbrev pub Trees : Type 0
Trees = List Tree

-- what stands where there is no value and no tree; nothing that is well sorted asks for it
abbrev pub no_value : Value
no_value = One (Flag false)

abbrev pub no_tree : Tree
no_tree = Plain no_value

-- the tree of a variable
abbrev pub tree_at : Trees → ℕ → Tree
tree_at v i = slice_index_or v i no_tree

-- the value that a tree is
abbrev pub plain_step : Term-F Value Value → Value
plain_step (Term-F.Con c xs) = no_value
plain_step (Term-F.Plain x) = x

abbrev pub plain_of : Tree → Value
plain_of = fold-Term Value Value plain_step

-- the value of a pattern under a valuation
abbrev pub pattern_step : Trees → Pattern-F Tree → Tree
pattern_step v (Pattern-F.Bind i) = tree_at v i
pattern_step v (Pattern-F.Exact s) = Plain (One s)
pattern_step v (Pattern-F.Con c ts) = Con c ts

abbrev pub pattern_value : Trees → Pattern → Tree
pattern_value v = fold-Pattern Tree (pattern_step v)

-- the value of an expression under a valuation
abbrev pub value_step : Trees → RuleExpr-F Tree → Tree
value_step v (RuleExpr-F.Var i) = tree_at v i
value_step v (RuleExpr-F.Lit x) = Plain x
value_step v (RuleExpr-F.Op op ts) = Plain (op_value op (map plain_of ts))
value_step v (RuleExpr-F.Con c ts) = Con c ts

abbrev pub value : Trees → RuleExpr → Tree
value v = fold-RuleExpr Tree (value_step v)

-- the tree is the truth value true
abbrev pub IsTrueTree : Tree → Type 0
IsTrueTree t = t ≡ Plain (One (Flag true))
