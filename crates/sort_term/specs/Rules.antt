-- What the checks of a text make sure of: rules and the whole of a semantics.
use Rattle.std.specs.Prelude.{◌≡◌, ℕ, ◌<◌, ◌≤◌, Bool, true, false, IsTrue, IsSome, if◌then◌else◌, List, ◌∷◌, length, take, slice_get, count_by, Option, Some, None, All}
use Rattle.data_value.specs.declared.DataSort.TheVariants.{Bool as BoolSort, Bits as BitsSort}
use Rattle.sort_term.specs.declared.ids.SortId.{SortId}
use Rattle.sort_term.specs.declared.term.Sort.{Sort}
use Rattle.sort_term.specs.declared.term.Sort.TheVariants.{Own, Plain}
use Rattle.sort_term.specs.declared.semantics.Con.{Con}
use Rattle.sort_term.specs.declared.semantics.Table.{Table}
use Rattle.sort_term.specs.declared.rule.Var.{Var}
use Rattle.sort_term.specs.declared.rule.Pattern.{Pattern}
use Rattle.sort_term.specs.declared.rule.Rule.{Rule}
use Rattle.sort_term.specs.declared.rule.Source.{Source}
use Rattle.sort_term.specs.declared.rule.Source.TheVariants.{Expr, Row as RowOf}
use Rattle.sort_term.specs.declared.rule.Demand.{Demand}
use Rattle.sort_term.specs.declared.rule.Demand.TheVariants.{Let, When}
use Rattle.sort_term.specs.System.{System}
use Rattle.sort_term.specs.Names.{AreDistinct}
use Rattle.sort_term.specs.Sorted.{is_same, pattern_sort, expr_sort, IsPatternOf, IsExprOf}
use Rattle.sort_term.specs.Stands.{times_in, StandsIn, demand_reads, let_patterns, patterns_of}
use Rattle.sort_term.specs.Signature.{has_con, is_usable, is_scalar_own, AreVars, AreSorts, AreCons, AreTables}

-- the sort of a row that a table is read at: that of the table's terms, where the key is of the table's width
abbrev pub row_sort : Option Table → Option Sort → Option Sort
row_sort (Some t) (Some key) = if is_same key (Plain (BitsSort t.key)) then Some t.sort else None
row_sort _ _ = None

-- the sort of the right side of a `let`
abbrev pub source_sort : List Con → List Table → List Var → Source → Option Sort
source_sort cons tables vars (Expr e) = expr_sort cons vars e
source_sort cons tables vars (RowOf t e) = row_sort (slice_get tables t.0) (expr_sort cons vars e)

-- the sort that two parts have in common
abbrev pub common_sort : Option Sort → Option Sort → Option Sort
common_sort (Some a) (Some b) = if is_same a b then Some a else None
common_sort _ _ = None

-- the sort of a demand: that of both sides of a `let`; bool for a condition
abbrev pub demand_sort : List Con → List Table → List Var → Demand → Option Sort
demand_sort cons tables vars (Let p source) = common_sort (pattern_sort cons vars p) (source_sort cons tables vars source)
demand_sort cons tables vars (When e) = common_sort (Some (Plain BoolSort)) (expr_sort cons vars e)

-- whether a demand is a `let`, and whether it is a condition
abbrev pub is_let : Demand → Bool
is_let (Let p source) = true
is_let (When e) = false

abbrev pub is_when : Demand → Bool
is_when (Let p source) = false
is_when (When e) = true

-- a variable that stands more than once in the patterns is a truth value or a bit vector
pub record RepeatsOnlyScalars (vars : List Var) (ps : List Pattern) : Type 0 where
  pub each : (i : ℕ) (x : Var) → slice_get vars i ≡ Some x → 1 < times_in i ps → IsTrue (is_scalar_own x.sort)

-- each variable stands in the patterns
pub record AllStandIn (vars : List Var) (ps : List Pattern) : Type 0 where
  pub each : (i : ℕ) → i < length vars → StandsIn i ps

-- the variable i stands in the head or in the pattern of an earlier `let` wherever a demand reads it
abbrev pub IsBoundWhereRead : ℕ → Pattern → List Demand → Type 0
IsBoundWhereRead i head demands =
    (k : ℕ) (d : Demand) → slice_get demands k ≡ Some d → IsTrue (demand_reads i d) → StandsIn i (head ∷ let_patterns (take k demands))

-- each variable that a demand reads stands in the head or in the pattern of an earlier `let`
pub record ReadsBound (vars : List Var) (head : Pattern) (demands : List Demand) : Type 0 where
  pub each : (k : ℕ) (d : Demand) → slice_get demands k ≡ Some d → (i : ℕ) → i < length vars → IsTrue (demand_reads i d) → StandsIn i (head ∷ let_patterns (take k demands))

-- at most 16 `let`s and 16 conditions
pub record HasFewDemands (demands : List Demand) : Type 0 where
  pub lets : count_by is_let demands ≤ 16
  pub whens : count_by is_when demands ≤ 16

-- the parts of a rule are well sorted
pub record IsSorted (cons : List Con) (tables : List Table) (config : SortId) (r : Rule) : Type 0 where
  -- the head and the result are of the configuration sort
  pub head : IsPatternOf cons r.vars (Own config) r.head
  pub result : IsExprOf cons r.vars (Own config) r.result
  -- both sides of a `let` are of one sort, and a condition is of sort bool
  pub demands : All (λ d. IsSome (demand_sort cons tables r.vars d)) r.demands

-- the head and the `let`s of a rule bind its variables
pub record IsBound (r : Rule) : Type 0 where
  -- a variable that stands more than once in head and `let` patterns is scalar
  pub repeats : RepeatsOnlyScalars r.vars (patterns_of r)
  -- each variable is bound by the head or a `let`, and before a demand reads it
  pub all : AllStandIn r.vars (patterns_of r)
  pub reads : ReadsBound r.vars r.head r.demands

-- a rule, where these constructors, tables and configuration sort are declared
pub record IsRule (cons : List Con) (tables : List Table) (config : SortId) (r : Rule) : Type 0 where
  -- its variables have sorts that may be used
  pub vars : AreVars (is_usable cons) r.vars
  pub few : HasFewDemands r.demands
  pub sorted : IsSorted cons tables config r
  pub bound : IsBound r

-- the rules of a semantics: at most 1,000, no two of one name
pub record AreRules (cons : List Con) (tables : List Table) (config : SortId) (rules : List Rule) : Type 0 where
  pub few : length rules ≤ 1000
  pub distinct : AreDistinct (λ r. r.name) rules
  pub each : All (IsRule cons tables config) rules

-- a semantics: its parts pass their checks as items in the order sorts, constructors, tables, configuration sort, rules
pub record IsSemantics (s : System) : Type 0 where
  pub sorts_pass : AreSorts s.sorts
  pub cons_pass : AreCons s.sorts s.cons
  pub tables_pass : AreTables s.cons s.tables
  -- the configuration sort has a constructor
  pub config_made : IsTrue (has_con s.cons s.config)
  pub rules_pass : AreRules s.cons s.tables s.config s.rules
