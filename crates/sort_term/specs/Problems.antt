-- What the checks of a text make sure of: programs, cuts and points, and the whole of a problem.
use Rattle.std.specs.Prelude.{◌≡◌, ◌≢◌, ℕ, ◌<◌, ◌≤◌, ◌^◌, ◌||◌, IsTrue, List, [], ◌∷◌, length, slice_get, Some, All, AllPairs}
use Rattle.data_value.specs.declared.DataSort.TheVariants.{Bool as BoolSort}
use Rattle.sort_term.specs.declared.term.Sort.TheVariants.{Own, Plain}
use Rattle.sort_term.specs.declared.semantics.Con.{Con}
use Rattle.sort_term.specs.declared.semantics.Table.{Table}
use Rattle.sort_term.specs.declared.program.Row.{Row}
use Rattle.sort_term.specs.declared.points.Cut.{Cut}
use Rattle.sort_term.specs.declared.points.Point.{Point}
use Rattle.sort_term.specs.declared.points.Points.{Points}
use Rattle.sort_term.specs.declared.rule.RuleExpr.{RuleExpr}
use Rattle.sort_term.specs.declared.rule.Var.{Var}
use Rattle.sort_term.specs.System.{System}
use Rattle.sort_term.specs.Names.{AreDistinct}
use Rattle.sort_term.specs.Sorted.{IsTreeOf, IsPatternOf, IsExprOf}
use Rattle.sort_term.specs.Step.{Tables}
use Rattle.sort_term.specs.Stands.{is_argument}
use Rattle.sort_term.specs.Signature.{is_known, is_plain, AreVars}
use Rattle.sort_term.specs.Rules.{RepeatsOnlyScalars, AllStandIn, IsSemantics}

-- a row of a table
pub record IsRow (cons : List Con) (t : Table) (r : Row) : Type 0 where
  -- the key has the table's key width
  pub key : r.key < 2 ^ t.key
  -- the term is of the table's sort
  pub term : IsTreeOf cons t.sort r.term

-- the rows of a table
pub record AreRows (cons : List Con) (t : Table) (rows : List Row) : Type 0 where
  -- at most 4,096
  pub few : length rows ≤ 4096
  -- no two with one key
  pub distinct : AllPairs (λ a b. a.key ≢ b.key) rows
  pub each : All (IsRow cons t) rows

-- each table has lawful rows
pub record HaveRows (cons : List Con) (tables : List Table) (lists : Tables) : Type 0 where
  pub each : (k : ℕ) (t : Table) (rows : List Row) → slice_get tables k ≡ Some t → slice_get lists k ≡ Some rows → AreRows cons t rows

-- a program of a semantics
pub record IsProgram (s : System) (lists : Tables) : Type 0 where
  -- one list of rows for each table
  pub long : length lists ≡ length s.tables
  pub rows : HaveRows s.cons s.tables lists

-- the conditions of a cut item or a point: at most 16, each of sort bool
pub record AreWhens (cons : List Con) (vars : List Var) (whens : List RuleExpr) : Type 0 where
  pub few : length whens ≤ 16
  pub sorted : All (IsExprOf cons vars (Plain BoolSort)) whens

-- an item of a cut of a semantics
pub record IsCut {S : Type 0} (s : System) (item : Cut S) : Type 0 where
  -- its variables have sorts that the semantics knows
  pub vars : AreVars (is_known s.sorts) item.vars
  -- the pattern is of the configuration sort
  pub pattern : IsPatternOf s.cons item.vars (Own s.config) item.pattern
  -- a variable that stands more than once in it is scalar
  pub repeats : RepeatsOnlyScalars item.vars (item.pattern ∷ [])
  -- each variable stands in it
  pub bound : AllStandIn item.vars (item.pattern ∷ [])
  pub whens : AreWhens s.cons item.vars item.whens

-- a cut of a semantics: at most 64 items, no two of one name
pub record AreCuts {S : Type 0} (s : System) (items : List (Cut S)) : Type 0 where
  pub few : length items ≤ 64
  pub distinct : AreDistinct (λ c. c.name) items
  pub each : All (IsCut s) items

-- the places of the undefined items of a cut: each is that of an item, and they rise
pub record AreUndefs {S : Type 0} (items : List (Cut S)) (places : List ℕ) : Type 0 where
  pub there : All (λ k. k < length items) places
  pub rising : AllPairs (λ j k. j < k) places

-- an expression over these variables of the configuration sort of a semantics
abbrev pub IsConfigExpr : System → List Var → RuleExpr → Type 0
IsConfigExpr s vars e = IsExprOf s.cons vars (Own s.config) e

-- each variable is a direct argument of a constructor in one of the two terms, so a related pair determines its value
pub record AreDetermined (vars : List Var) (left right : RuleExpr) : Type 0 where
  pub each : (i : ℕ) → i < length vars → IsTrue (is_argument i left || is_argument i right)

-- a point between two semantics
pub record IsPointOf (left right : System) (p : Point) : Type 0 where
  -- its variables have sorts of data
  pub vars : AreVars is_plain p.vars
  -- its terms are of the configuration sorts of their sides
  pub left_term : IsConfigExpr left p.vars p.left
  pub right_term : IsConfigExpr right p.vars p.right
  -- in its conditions no constructor is known
  pub whens : AreWhens [] p.vars p.whens
  pub determined : AreDetermined p.vars p.left p.right

-- the points: from 1 to 64, no two of one name
pub record ArePoints (left right : System) (points : List Point) : Type 0 where
  pub some : 1 ≤ length points
  pub few : length points ≤ 64
  pub distinct : AreDistinct (λ p. p.name) points
  pub each : All (IsPointOf left right) points

-- the parts of a problem passed their checks, and fit each other
pub record IsProblem (left right : System) (left_program right_program : Tables) (points : Points) : Type 0 where
  pub left_semantics : IsSemantics left
  pub right_semantics : IsSemantics right
  pub left_rows : IsProgram left left_program
  pub right_rows : IsProgram right right_program
  pub left_cuts : AreCuts left points.left_cuts
  pub right_cuts : AreCuts right points.right_cuts
  pub undefs : AreUndefs points.left_cuts points.undefs
  pub fitting_points : ArePoints left right points.points
