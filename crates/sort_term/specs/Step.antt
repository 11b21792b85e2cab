-- Rule instances and steps of a semantics with a program.
use Rattle.std.specs.Prelude.{◌≡◌, ℕ, ◌==◌, if◌then◌else◌, List, [], ◌∷◌, slice_get, Option, Some, None, All}
use Rattle.data_value.specs.Values.{scalar_of, word_of}
use Rattle.sort_term.specs.declared.term.Sort.TheVariants.{Own}
use Rattle.sort_term.specs.declared.semantics.Con.{Con}
use Rattle.sort_term.specs.declared.program.Row.{Row}
use Rattle.sort_term.specs.declared.rule.Rule.{Rule}
use Rattle.sort_term.specs.declared.rule.Source.{Source}
use Rattle.sort_term.specs.declared.rule.Source.TheVariants.{Expr, Row as RowOf}
use Rattle.sort_term.specs.declared.rule.Demand.{Demand}
use Rattle.sort_term.specs.declared.rule.Demand.TheVariants.{Let, When}
use Rattle.sort_term.specs.System.{System}
use Rattle.sort_term.specs.Tree.{Tree, Trees, plain_of, pattern_value, value, IsTrueTree}
use Rattle.sort_term.specs.Sorted.{IsTreeOf, IsValuationOf}

-- a program has for each table its rows
abbrev pub Tables : Type 0
Tables = List (List Row)

-- the number that a tree is, where it is a bit vector
abbrev pub word_in : Tree → ℕ
word_in t = word_of (scalar_of (plain_of t))

-- the term of the row with a key, if there is one
abbrev pub row_at : List Row → ℕ → Option Tree
row_at [] key = None
row_at (r ∷ more) key = if r.key == key then Some r.term else row_at more key

abbrev pub table_at : Option (List Row) → ℕ → Option Tree
table_at None key = None
table_at (Some rows) key = row_at rows key

-- the value of the right side of a `let`, if there is one
abbrev pub source_value : Tables → Trees → Source → Option Tree
source_value tables v (Expr e) = Some (value v e)
source_value tables v (RowOf t e) = table_at (slice_get tables t.0) (word_in (value v e))

-- a demand is met: the pattern's value is that of the right side, or the condition is true
abbrev pub Demanded : Tables → Trees → Demand → Type 0
Demanded tables v (Let p s) = source_value tables v s ≡ Some (pattern_value v p)
Demanded tables v (When e) = IsTrueTree (value v e)

-- rule instance: under the valuation v the rule takes s to t
pub record Takes (cons : List Con) (tables : Tables) (r : Rule) (v : Trees) (s t : Tree) : Type 0 where
  pub fits : IsValuationOf cons r.vars v
  pub head : pattern_value v r.head ≡ s
  pub demands : All (Demanded tables v) r.demands
  pub result : value v r.result ≡ t

-- step: the rule with the number n takes s to t under some valuation
pub record StepsBy (sys : System) (tables : Tables) (n : ℕ) (s t : Tree) : Type 0 where
  pub rule : Rule
  pub there : slice_get sys.rules n ≡ Some rule
  pub valuation : Trees
  pub takes : Takes sys.cons tables rule valuation s t

-- a state is a well-sorted tree of the configuration sort
abbrev pub IsState : System → Tree → Type 0
IsState sys s = IsTreeOf sys.cons (Own sys.config) s
