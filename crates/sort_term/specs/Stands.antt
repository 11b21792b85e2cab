-- Where a variable stands in patterns and expressions.
use Rattle.std.specs.Prelude.{ℕ, ◌<◌, Bool, false, ◌||◌, ◌==◌, if◌then◌else◌, List, ◌∷◌, sum, sum_by, filter_map, Option, Some, None}
use Rattle.std.specs.List.{list_any}
use Rattle.sort_term.specs.declared.rule.Pattern.{Pattern, fold-Pattern}
use Rattle.sort_term.specs.declared.rule.Pattern.TheOpen.{Pattern-F}
use Rattle.sort_term.specs.declared.rule.RuleExpr.{RuleExpr, fold-RuleExpr}
use Rattle.sort_term.specs.declared.rule.RuleExpr.TheOpen.{RuleExpr-F}
use Rattle.sort_term.specs.declared.rule.Source.{Source}
use Rattle.sort_term.specs.declared.rule.Source.TheVariants.{Expr, Row as RowOf}
use Rattle.sort_term.specs.declared.rule.Demand.{Demand}
use Rattle.sort_term.specs.declared.rule.Demand.TheVariants.{Let, When}
use Rattle.sort_term.specs.declared.rule.Rule.{Rule}

-- how many times the variable i stands in a pattern, and in a list of patterns
abbrev pub times_step : ℕ → Pattern-F ℕ → ℕ
times_step i (Pattern-F.Bind j) = if i == j then 1 else 0
times_step i (Pattern-F.Exact s) = 0
times_step i (Pattern-F.Con c counts) = sum counts

abbrev pub times : ℕ → Pattern → ℕ
times i = fold-Pattern ℕ (times_step i)

abbrev pub times_in : ℕ → List Pattern → ℕ
times_in i ps = sum_by (times i) ps

-- the variable i stands in one of the patterns
abbrev pub StandsIn : ℕ → List Pattern → Type 0
StandsIn i ps = 0 < times_in i ps

-- whether the variable i stands in an expression, a right side of a `let`, a demand's expression
abbrev pub reads_step : ℕ → RuleExpr-F Bool → Bool
reads_step i (RuleExpr-F.Var j) = i == j
reads_step i (RuleExpr-F.Lit x) = false
reads_step i (RuleExpr-F.Op op parts) = list_any (λ part. part) parts
reads_step i (RuleExpr-F.Con c parts) = list_any (λ part. part) parts

abbrev pub reads : ℕ → RuleExpr → Bool
reads i = fold-RuleExpr Bool (reads_step i)

abbrev pub source_reads : ℕ → Source → Bool
source_reads i (Expr e) = reads i e
source_reads i (RowOf t e) = reads i e

abbrev pub demand_reads : ℕ → Demand → Bool
demand_reads i (Let p s) = source_reads i s
demand_reads i (When e) = reads i e

-- the patterns of the `let`s among the demands
abbrev pub let_pattern : Demand → Option Pattern
let_pattern (Let p s) = Some p
let_pattern (When e) = None

abbrev pub let_patterns : List Demand → List Pattern
let_patterns demands = filter_map let_pattern demands

-- the patterns of a rule
abbrev pub patterns_of : Rule → List Pattern
patterns_of r = r.head ∷ let_patterns r.demands

-- first whether an expression is the variable i, then whether i is a direct argument of a constructor in it
abbrev pub argument_step : ℕ → RuleExpr-F (Bool × Bool) → Bool × Bool
argument_step i (RuleExpr-F.Var j) = (i == j, false)
argument_step i (RuleExpr-F.Lit x) = (false, false)
argument_step i (RuleExpr-F.Op op parts) = (false, list_any (λ part. part.1) parts)
argument_step i (RuleExpr-F.Con c parts) = (false, list_any (λ part. part.0 || part.1) parts)

abbrev pub argument_of : ℕ → RuleExpr → Bool × Bool
argument_of i = fold-RuleExpr (Bool × Bool) (argument_step i)

-- whether the variable i is a direct argument of a constructor in an expression
abbrev pub is_argument : ℕ → RuleExpr → Bool
is_argument i e = (argument_of i e).1
