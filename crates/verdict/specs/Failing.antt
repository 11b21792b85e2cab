-- Failures by a run of one side.
use Rattle.std.specs.Prelude.{◌≡◌, ℕ, List, map}
use Rattle.data_value.specs.declared.Value.{Value}
use Rattle.sort_term.specs.declared.points.Point.{Point}
use Rattle.sort_term.specs.declared.problem.Problem.{Problem}
use Rattle.sort_term.specs.Tree.{Tree}
use Rattle.sort_term.specs.Runs.{IsRun, Ends}
use Rattle.sort_term.specs.Relation.{Side, IsPoint, Relates, of_side, StepsOf}
use Rattle.ground_step.specs.declared.verdict.Failure.{Failure}
use Rattle.ground_step.specs.Fit.{plain_trees}
use Rattle.ground_step.specs.Shows.{side_of, reached_side, reached_tree}

-- a run of that side from a state by these rules leads to t
abbrev pub RunsTo : Problem → Side → Tree → List ℕ → Tree → Type 0
RunsTo q side s rules t = Ends (IsRun (StepsOf q side) s) s rules t

-- under the values the point with the number k relates two states, and there is a run by the rules from that side's
pub record HasRun (q : Problem) (k : ℕ) (side : Side) (values : List Value) (rules : List ℕ) : Type 0 where
  pub point : Point
  pub there : IsPoint q k point
  pub left : Tree
  pub right : Tree
  pub pair : Relates q point (plain_trees values) left right
  pub last : Tree
  pub run : RunsTo q side (of_side side left right) rules last

-- the failure of the point with the number k under the values: its two states are related by it, and the run by the rules from that
-- side's leads to the state that the failure reaches
pub record IsFailureBy (q : Problem) (k : ℕ) (side : Side) (values : List Value) (rules : List ℕ) (f : Failure) : Type 0 where
  pub place : f.point ≡ k
  pub on : side_of f.side ≡ side
  pub under : f.values ≡ values
  pub by : map (λ r. r.0) f.rules ≡ rules
  pub pair : (p : Point) → IsPoint q k p → Relates q p (plain_trees values) f.left.term f.right.term
  pub reached : reached_side f.reached ≡ side
  pub run : RunsTo q side (of_side side f.left.term f.right.term) rules (reached_tree f.reached)
