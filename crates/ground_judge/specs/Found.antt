-- What the runs from the states of a point show.
use Rattle.std.specs.Prelude.{◌≡◌, ◌≢◌, ℕ, Bool, List, [], All, Any, MatchBool}
use Rattle.sort_term.specs.declared.points.Point.{Point}
use Rattle.sort_term.specs.declared.problem.Problem.{Problem}
use Rattle.sort_term.specs.declared.term.Left.{Left}
use Rattle.sort_term.specs.declared.term.Right.{Right}
use Rattle.sort_term.specs.Tree.{Tree}
use Rattle.sort_term.specs.Runs.{IsMet}
use Rattle.sort_term.specs.Relation.{Related, RightFails, LeftFails}
use Rattle.sort_term.specs.Meeting.{AlwaysMeets}
use Rattle.sort_term.specs.Simulation.{IsWellGroundedAt, RightMatches, LeftMatches}
use Rattle.sort_term.specs.Verdict.{FirstTest}
use Rattle.ground_step.specs.Reach.{StartedRun, From, AreExactly, end_of, runs_of}
use Rattle.ground_step.specs.declared.reach.GroundReach.{GroundReach}
use Rattle.ground_step.specs.declared.verdict.SideName.TheVariants as side
use Rattle.ground_judge.specs.declared.kind.FailedTest.{FailedTest}
use Rattle.ground_judge.specs.declared.kind.FailedTest.TheVariants.{Long, Halted}
use Rattle.ground_judge.specs.declared.finding.Finding.{Finding}
use Rattle.ground_judge.specs.declared.finding.Finding.TheVariants.{Ungrounded, Grounded}
use Rattle.ground_judge.specs.Ground.{IsOnlyPair}
use Rattle.ground_judge.specs.Kinds.{test_of}

-- each run from s that makes a step meets the cut within n steps, and these are all met runs from s
pub record AreMet (Steps : ℕ → Tree → Tree → Type 0) (In : Tree → Type 0) (n : ℕ) (s : Tree) (met : List StartedRun) : Type 0 where
  pub meets : AlwaysMeets Steps In n s
  pub exactly : AreExactly (From s (IsMet Steps In s)) met

-- moreover s is in the cut
abbrev pub Keeps : (ℕ → Tree → Tree → Type 0) → (Tree → Type 0) → ℕ → Tree → List StartedRun → Type 0
Keeps Steps In n s met = In s × AreMet Steps In n s met

-- no run is long or halted
pub record NoEscape (l : GroundReach Left) (r : GroundReach Right) : Type 0 where
  pub left_long : l.long ≡ []
  pub right_long : r.long ≡ []
  pub left_halted : l.halted ≡ []
  pub right_halted : r.halted ≡ []

-- some run is long or halted, as the test says, and none as a test before it says
abbrev pub FirstEscape : GroundReach Left → GroundReach Right → FailedTest → Type 0
FirstEscape l r (Long side.Left) = l.long ≢ []
FirstEscape l r (Long side.Right) = (l.long ≡ []) × (r.long ≢ [])
FirstEscape l r (Halted side.Left) = (l.long ≡ []) × (r.long ≡ []) × (l.halted ≢ [])
FirstEscape l r (Halted side.Right) = (l.long ≡ []) × (r.long ≡ []) × (l.halted ≡ []) × (r.halted ≢ [])
FirstEscape l r _ = ⊥

-- each right run ends in a state that is related to the last state of a left run, and some right run doesn't
abbrev pub AreRightsMatched : Problem → List StartedRun → List StartedRun → Type 0
AreRightsMatched q lefts rights = All (λ r. Any (λ l. Related q (end_of l) (end_of r)) lefts) rights

abbrev pub IsRightUnmatched : Problem → List StartedRun → List StartedRun → Type 0
IsRightUnmatched q lefts rights = Any (λ r. All (λ l. ¬ Related q (end_of l) (end_of r)) lefts) rights

-- the same with the sides exchanged
abbrev pub AreLeftsMatched : Problem → List StartedRun → List StartedRun → Type 0
AreLeftsMatched q lefts rights = All (λ l. Any (λ r. Related q (end_of l) (end_of r)) rights) lefts

abbrev pub IsLeftUnmatched : Problem → List StartedRun → List StartedRun → Type 0
IsLeftUnmatched q lefts rights = Any (λ l. All (λ r. ¬ Related q (end_of l) (end_of r)) rights) lefts

-- whether each right run is so matched, or some right run isn't; the same of the left runs
abbrev pub TellsRights : Problem → List StartedRun → List StartedRun → Bool → Type 0
TellsRights q lefts rights told = MatchBool told (AreRightsMatched q lefts rights) (IsRightUnmatched q lefts rights)

abbrev pub TellsLefts : Problem → List StartedRun → List StartedRun → Bool → Type 0
TellsLefts q lefts rights told = MatchBool told (AreLeftsMatched q lefts rights) (IsLeftUnmatched q lefts rights)

-- whether one of these runs ends in a state with P, or none does
abbrev pub TellsEnd : (Tree → Type 0) → List StartedRun → Bool → Type 0
TellsEnd P runs told = MatchBool told (Any (λ r. P (end_of r)) runs) (All (λ r. ¬ P (end_of r)) runs)

-- what is found of a point is so: the first test that holds there; or it is grounded, and each side fails or has all partners
abbrev pub Finds : Problem → ℕ → Point → Finding → Type 0
Finds q n p (Ungrounded t) = FirstTest q n (test_of t) p
Finds q n p (Grounded right_fails left_fails) =
    IsWellGroundedAt q n p × MatchBool right_fails (RightFails q p) (RightMatches q p) × MatchBool left_fails (LeftFails q p) (LeftMatches q p)

-- the same of each point whose only related pair is (a, b)
abbrev pub FindsOf : Problem → ℕ → Tree → Tree → Finding → Type 0
FindsOf q n a b found = (p : Point) → IsOnlyPair q p a b → Finds q n p found

-- what the runs from both states tell is so: the first test that a long or a halted run tells; or there is no such run, and on each side some met run has no partner or all have one
abbrev pub TellsRuns : Problem → GroundReach Left → GroundReach Right → Finding → Type 0
TellsRuns q l r (Ungrounded t) = FirstEscape l r t
TellsRuns q l r (Grounded right_fails left_fails) =
    NoEscape l r × MatchBool right_fails (IsRightUnmatched q (runs_of l.met) (runs_of r.met)) (AreRightsMatched q (runs_of l.met) (runs_of r.met)) × MatchBool left_fails (IsLeftUnmatched q (runs_of l.met) (runs_of r.met)) (AreLeftsMatched q (runs_of l.met) (runs_of r.met))
