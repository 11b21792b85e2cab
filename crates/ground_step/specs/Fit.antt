-- How a point relates a pair of states, and what the pair determines.
use Rattle.std.specs.Prelude.{◌≡◌, ℕ, ◌<◌, Bool, ◌||◌, IsTrue, List, [], length, map, Option, Some, MatchOption}
use Rattle.std.specs.List.{list_any}
use Rattle.data_value.specs.declared.Value.{Value}
use Rattle.sort_term.specs.declared.term.Config.{Config}
use Rattle.sort_term.specs.declared.term.Sort.{Sort}
use Rattle.sort_term.specs.declared.term.Term.TheVariants.{Plain}
use Rattle.sort_term.specs.declared.semantics.Con.{Con}
use Rattle.sort_term.specs.declared.points.Point.{Point}
use Rattle.sort_term.specs.declared.problem.Problem.{Problem}
use Rattle.sort_term.specs.declared.rule.Var.{Var}
use Rattle.sort_term.specs.declared.rule.RuleExpr.{RuleExpr}
use Rattle.sort_term.specs.Tree.{Tree, Trees, value}
use Rattle.sort_term.specs.Sorted.{tree_sort, expr_sort}
use Rattle.sort_term.specs.Stands.{reads, argument_of}
use Rattle.sort_term.specs.Relation.{IsPoint, Relates, Related}
use Rattle.ground_step.specs.declared.relation.Fit.{Fit}
use Rattle.ground_step.specs.GroundBinds.{AgreesGround}
use Rattle.ground_step.specs.Ready.{IsKnown}

-- values as a valuation
abbrev pub plain_trees : List Value → Trees
plain_trees values = map Plain values

-- the point relates a and b under these values, and under no other valuation
pub record IsOnlyFit (q : Problem) (p : Point) (a b : Tree) (values : List Value) : Type 0 where
  pub relates : Relates q p (plain_trees values) a b
  pub only : (v : Trees) → Relates q p v a b → v ≡ plain_trees values

-- the first point that relates a and b, with the one valuation
pub record IsFirstFit (q : Problem) (a b : Tree) (fit : Fit) : Type 0 where
  pub point : Point
  pub there : IsPoint q fit.point point
  pub fits : IsOnlyFit q point a b fit.values
  pub first : (j : ℕ) (p : Point) (v : Trees) → j < fit.point → IsPoint q j p → ¬ Relates q p v a b

-- the first fit of a and b, or none where they aren't related
abbrev pub IsFitOf : Problem → Tree → Tree → Option Fit → Type 0
IsFitOf q a b fit = MatchOption fit (¬ Related q a b) (IsFirstFit q a b)

-- the values by which the point with the number n relates a and b, if there are some
pub record RelationIs (q : Problem) (n : ℕ) (a b : Tree) (o : Option (List Value)) : Type 0 where
  pub point : Point
  pub there : IsPoint q n point
  pub fits : (values : List Value) → o ≡ Some values → IsOnlyFit q point a b values
  pub some : (v : Trees) → Relates q point v a b → (values : List Value) × (o ≡ Some values)

-- the two states of a point without variables
abbrev pub AreOf : {S T : Type 0} → Point → Config S Value × Config T Value → Type 0
AreOf p states = (p.vars ≡ []) × (states.0.term ≡ value [] p.left) × (states.1.term ≡ value [] p.right)

-- a bound variable's tree, where it is a value
abbrev pub some_plain : Value → Option Tree
some_plain x = Some (Plain x)

-- the variable is bound to a value
abbrev pub IsValueBound : Option Tree → Type 0
IsValueBound o = (x : Value) × (o ≡ some_plain x)

-- the variables that the expression reads are among the first n
pub record ReadsWithin (n : ℕ) (e : RuleExpr) : Type 0 where
  pub below : (i : ℕ) → IsTrue (reads i e) → i < n

-- whether the variable i is the expression or a direct argument of a constructor in it, and of some of several
abbrev pub is_part : ℕ → RuleExpr → Bool
is_part i e = (argument_of i e).0 || (argument_of i e).1

abbrev pub is_part_of : ℕ → List RuleExpr → Bool
is_part_of i es = list_any (λ part. part.0 || part.1) (map (argument_of i) es)

-- each valuation that gives e the value t agrees with the new bound variables, and where both are of one sort, these are the parts of e with trees of their sorts; where the answer is no, there is none
pub record Determines (old new : List (Option Tree)) (ok : Bool) (e : RuleExpr) (t : Tree) : Type 0 where
  pub keeps : length new ≡ length old
  pub sound : (v : Trees) → AgreesGround new v → IsTrue ok → AgreesGround old v
  pub complete : (v : Trees) → AgreesGround old v → value v e ≡ t → IsTrue ok × AgreesGround new v
  pub known : IsTrue ok → (cons : List Con) (vars : List Var) (s : Sort) → expr_sort cons vars e ≡ Some s → tree_sort cons t ≡ Some s → (i : ℕ) → IsTrue (is_part i e) → IsKnown cons vars new i

-- the same of several expressions
pub record DeterminesAll (old new : List (Option Tree)) (ok : Bool) (es : List RuleExpr) (ts : Trees) : Type 0 where
  pub keeps : length new ≡ length old
  pub sound : (v : Trees) → AgreesGround new v → IsTrue ok → AgreesGround old v
  pub complete : (v : Trees) → AgreesGround old v → map (value v) es ≡ ts → IsTrue ok × AgreesGround new v
  pub known : IsTrue ok → (cons : List Con) (vars : List Var) (ss : List Sort) → map (expr_sort cons vars) es ≡ map Some ss → map (tree_sort cons) ts ≡ map Some ss → (i : ℕ) → IsTrue (is_part_of i es) → IsKnown cons vars new i
