-- Laws of well grounded relations, and of runs that always meet the cut.
use Rattle.std.specs.Prelude.{ℕ, ◌≤◌, List}
use Rattle.sort_term.specs.declared.points.Cut.{Cut}
use Rattle.sort_term.specs.declared.problem.Problem.{Problem}
use Rattle.sort_term.specs.System.{System}
use Rattle.sort_term.specs.Tree.{Tree}
use Rattle.sort_term.specs.Step.{Tables, StepsBy}
use Rattle.sort_term.specs.Runs.{IsRun}
use Rattle.sort_term.specs.Cuts.{InCut}
use Rattle.sort_term.specs.Meeting.{AlwaysMeets, AreMetInTurn, reached_in_turn, SplitsAtCut}
use Rattle.sort_term.specs.Simulation.{IsGrounded, IsWellGrounded}

-- for at least one step, a well grounded relation is grounded
abbrev pub WellGroundedIsGrounded : Type 0
WellGroundedIsGrounded = (q : Problem) (n : ℕ) → 1 ≤ n → IsWellGrounded q n → IsGrounded q n

-- each run from s always meets the cut, and so does each run from where met runs from s, one after another, lead
abbrev pub MeetsAgain : {S : Type 0} → System → Tables → List (Cut S) → ℕ → Tree → Type 0
MeetsAgain sys tables cuts n s =
    (mets : List (List (ℕ × Tree))) → AreMetInTurn (StepsBy sys tables) (InCut sys.cons cuts) s mets → AlwaysMeets (StepsBy sys tables) (InCut sys.cons cuts) n (reached_in_turn s mets)

-- where runs from s meet the cut again and again, each run from s is met runs and a rest without states in the cut
abbrev pub RunsSplitAtCuts : Type 0 → Type 0
RunsSplitAtCuts S =
    (sys : System) (tables : Tables) (cuts : List (Cut S)) (n : ℕ) (s : Tree) → MeetsAgain sys tables cuts n s → (run : List (ℕ × Tree)) → IsRun (StepsBy sys tables) s run → SplitsAtCut (StepsBy sys tables) (InCut sys.cons cuts) s run
