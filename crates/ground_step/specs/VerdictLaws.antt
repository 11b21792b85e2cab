-- What a failure that witnesses a kind says of the problem.
use Rattle.std.specs.Prelude.{ℕ, ◌<◌, ⊤}
use Rattle.sort_term.specs.declared.points.Point.{Point}
use Rattle.sort_term.specs.declared.problem.Problem.{Problem}
use Rattle.sort_term.specs.Relation.{Side, left, right, IsPoint, RightMisses, RightFails, LeftFails}
use Rattle.sort_term.specs.Simulation.{Test, HasTest, IsUngrounded, IsGrounded, IsCutSimulation, SideMisses}
use Rattle.sort_term.specs.Verdict.{ungrounded, unmatched, refines, rank, AtPoint, NoneBefore, IsVerdict}
use Rattle.ground_step.specs.declared.verdict.Failure.{Failure}
use Rattle.ground_step.specs.declared.verdict.Verdict.{Verdict}
use Rattle.ground_step.specs.Shows.{Witness, Shows, IsRight, kind_of_verdict}

-- A witness of a test at a point shows that the test holds there.
abbrev pub WitnessedTestsHold : Type 0
WitnessedTestsHold = (q : Problem) (n k : ℕ) (t : Test) (f : Failure) → Witness q n (ungrounded k t) f → AtPoint q (λ p. HasTest q n p t) k

-- A witness of "unmatched" at a point shows that the right fails there.
abbrev pub WitnessedRightsFail : Type 0
WitnessedRightsFail = (q : Problem) (n k : ℕ) (f : Failure) → Witness q n (unmatched k) f → AtPoint q (RightFails q) k

-- A witness of "refines" on the right side at a point shows that the right misses there, one on the left side that the left fails.
abbrev pub WitnessedRightsMiss : Type 0
WitnessedRightsMiss = (q : Problem) (n k : ℕ) (f : Failure) → Witness q n (refines k right) f → AtPoint q (RightMisses q) k

abbrev pub WitnessedLeftsFail : Type 0
WitnessedLeftsFail = (q : Problem) (n k : ℕ) (f : Failure) → Witness q n (refines k left) f → AtPoint q (LeftFails q) k

-- no test before t in their order holds at the point with the number k
abbrev pub NoTestBefore : Problem → ℕ → ℕ → Test → Type 0
NoTestBefore q n k t = (p : Point) → IsPoint q k p → (u : Test) → rank u < rank t → ¬ HasTest q n p u

-- A witness of a test shows the verdict, where no test holds at a point before and no earlier one at this point.
abbrev pub FirstTestsShow : Type 0
FirstTestsShow =
    (q : Problem) (n k : ℕ) (t : Test) (f : Failure) → NoneBefore q (IsUngrounded q n) k → NoTestBefore q n k t → Witness q n (ungrounded k t) f → Shows q n (ungrounded k t) f

-- A witness of "unmatched" shows the verdict of a grounded relation, where the right fails at no point before.
abbrev pub FirstRightsShow : Type 0
FirstRightsShow = (q : Problem) (n k : ℕ) (f : Failure) → IsGrounded q n → NoneBefore q (RightFails q) k → Witness q n (unmatched k) f → Shows q n (unmatched k) f

-- the right doesn't miss at the point with the number k, where the side is the left one
abbrev pub NoRightMiss : Problem → ℕ → Side → Type 0
NoRightMiss q k right = ⊤
NoRightMiss q k left = (p : Point) → IsPoint q k p → ¬ RightMisses q p

-- A witness of "refines" shows the verdict of a grounded cut-simulation, where neither side misses at a point before, and on the left
-- side the right doesn't at this point.
abbrev pub FirstMissesShow : Type 0
FirstMissesShow =
    (q : Problem) (n k : ℕ) (side : Side) (f : Failure) → IsGrounded q n → IsCutSimulation q → NoneBefore q (SideMisses q) k → NoRightMiss q k side → Witness q n (refines k side) f → Shows q n (refines k side) f

-- A right verdict is the verdict of the problem.
abbrev pub RightVerdictsAreVerdicts : Type 0
RightVerdictsAreVerdicts = (q : Problem) (n : ℕ) (v : Verdict) → IsRight q n v → IsVerdict q n (kind_of_verdict v)
