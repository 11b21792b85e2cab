-- The verdict of a problem for a number of steps.
use Rattle.std.specs.Prelude.{ℕ, ◌<◌}
use Rattle.sort_term.specs.declared.points.Point.{Point}
use Rattle.sort_term.specs.declared.problem.Problem.{Problem}
use Rattle.sort_term.specs.Relation.{Side, left, right, IsPoint, RightMisses, RightFails, LeftFails}
use Rattle.sort_term.specs.Simulation.{Test, void, outside, long, halted, HasTest, IsUngrounded, IsGrounded, IsCutSimulation, SideMisses, IsCutBisimulation}

-- the kind of a verdict, with the number of its point: not grounded by the test that holds, with its side; unmatched, always on the right side; refines, with the side whose state has no partner; equivalent
pub data Kind : Type 0 where
  ungrounded : ℕ → Test → Kind
  unmatched : ℕ → Kind
  refines : ℕ → Side → Kind
  equivalent : Kind

-- the place of a test in their order
abbrev pub rank : Test → ℕ
rank void = 0
rank (outside left) = 1
rank (outside right) = 2
rank (long left) = 3
rank (long right) = 4
rank (halted left) = 5
rank (halted right) = 6

-- the test holds at the point, and none before it in their order does
abbrev pub FirstTest : Problem → ℕ → Test → Point → Type 0
FirstTest q n t p = HasTest q n p t × ((u : Test) → rank u < rank t → ¬ HasTest q n p u)

-- at the point a state of that side has no partner; the right side comes first
abbrev pub FirstMiss : Problem → Side → Point → Type 0
FirstMiss q right p = RightMisses q p
FirstMiss q left p = LeftFails q p × ¬ RightMisses q p

-- the point with the number k has P, and no point before it has P
abbrev pub AtPoint : Problem → (Point → Type 0) → ℕ → Type 0
AtPoint q P k = (p : Point) × IsPoint q k p × P p

abbrev pub NoneBefore : Problem → (Point → Type 0) → ℕ → Type 0
NoneBefore q P k = (j : ℕ) (p : Point) → j < k → IsPoint q j p → ¬ P p

-- the verdict: the first point at which a test holds, with the first test that holds there; otherwise the first point with "right fails"; otherwise the first with "right misses" or "left fails", on the right side where it has "right misses"; otherwise equivalent
abbrev pub IsVerdict : Problem → ℕ → Kind → Type 0
IsVerdict q n (ungrounded k t) = AtPoint q (FirstTest q n t) k × NoneBefore q (IsUngrounded q n) k
IsVerdict q n (unmatched k) = IsGrounded q n × AtPoint q (RightFails q) k × NoneBefore q (RightFails q) k
IsVerdict q n (refines k side) = IsGrounded q n × IsCutSimulation q × AtPoint q (FirstMiss q side) k × NoneBefore q (SideMisses q) k
IsVerdict q n equivalent = IsGrounded q n × IsCutBisimulation q
