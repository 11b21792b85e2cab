-- How far a point is examined.
use Rattle.std.specs.Prelude.{◌≡◌, ℕ, true, List}
use Rattle.data_value.specs.declared.DataSort.{DataSort}
use Rattle.data_value.specs.declared.Value.{Value}
use Rattle.data_value.specs.Nodes.{IsValuation}
use Rattle.data_value.specs.Truth.{truth}
use Rattle.sort_term.specs.declared.points.Point.{Point}
use Rattle.sort_term.specs.declared.problem.Problem.{Problem}
use Rattle.sort_term.specs.Relation.{IsPoint}
use Rattle.sort_term.specs.Simulation.{IsWellGroundedAt, RightIsExcused}
use Rattle.point_questions.specs.Posed.{SeenPosed, IsPosed}
use Rattle.point_questions.specs.Questions.{SeenPoint, IsOutsideFlaw}
use Rattle.point_questions.specs.QuestionLaws.{Excludes}
use Rattle.verdict.specs.Explored.{IsExplored}

-- the point with the number k over all variables that there are, and some valuation makes its condition true
pub record IsPosedHeld {N : Type 0} (q : Problem) (k : ℕ) (variables : List DataSort) (x : SeenPosed N) : Type 0 where
  pub point : Point
  pub there : IsPoint q k point
  pub posed : IsPosed variables q point x
  pub values : List Value
  pub fits : IsValuation variables values
  pub holds : truth x.condition values ≡ true

-- a searched point of which some valuation makes the condition true, and no question "outside" can be true
pub record IsInside {N : Type 0} (q : Problem) (n k : ℕ) (now : List DataSort) (x : SeenPoint N) : Type 0 where
  pub explored : IsExplored q n k now x
  pub same : explored.variables ≡ now
  pub values : List Value
  pub fits : IsValuation now values
  pub holds : truth x.condition values ≡ true
  pub inside : Excludes IsOutsideFlaw q now x

-- a searched point that is well grounded
pub record IsGroundedPoint {N : Type 0} (q : Problem) (n k : ℕ) (now : List DataSort) (x : SeenPoint N) : Type 0 where
  pub explored : IsExplored q n k now x
  pub grounded : IsWellGroundedAt q n explored.point

-- moreover the right doesn't fail there
pub record IsExcusedPoint {N : Type 0} (q : Problem) (n k : ℕ) (now : List DataSort) (x : SeenPoint N) : Type 0 where
  pub explored : IsExplored q n k now x
  pub grounded : IsWellGroundedAt q n explored.point
  pub excused : RightIsExcused q explored.point
