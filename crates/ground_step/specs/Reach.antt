-- Runs as values of the code, and lists of all runs of a kind.
use Rattle.std.specs.Prelude.{◌≡◌, ◌≢◌, ℕ, List, [], ◌∷◌, ◌++◌, map, All, AllPairs, Option, Some, MatchOption}
use Rattle.std.specs.List.{Contains}
use Rattle.sort_term.specs.declared.semantics.Con.{Con}
use Rattle.sort_term.specs.declared.points.Cut.{Cut}
use Rattle.sort_term.specs.System.{System}
use Rattle.sort_term.specs.Tree.{Tree}
use Rattle.sort_term.specs.Step.{Tables, StepsBy, IsState}
use Rattle.sort_term.specs.Runs.{reached, IsRun, Ends, IsStuck, StepsFirst, IsFirstRun, IsLong, IsMetWithin, IsHaltedWithin}
use Rattle.sort_term.specs.Cuts.{InCut}
use Rattle.ground_step.specs.declared.run.Run.{Run}
use Rattle.ground_step.specs.declared.run.RunStep.{RunStep}
use Rattle.ground_step.specs.Steps.{steps_of}

-- a start and the steps from there
abbrev pub StartedRun : Type 0
StartedRun = Tree × List (ℕ × Tree)

abbrev pub run_of : {S : Type 0} → Run S → StartedRun
run_of run = (run.start.term, steps_of run.steps)

abbrev pub runs_of : {S : Type 0} → List (Run S) → List StartedRun
runs_of runs = map run_of runs

-- the state that a run reaches
abbrev pub end_of : StartedRun → Tree
end_of p = reached p.0 p.1

-- nothing stands twice in the list
abbrev pub NoneTwice : {X : Type 0} → List X → Type 0
NoneTwice xs = AllPairs (λ x y. x ≢ y) xs

-- exactly what has P is in the list, each once
pub record AreExactly {X : Type 0} (P : X → Type 0) (xs : List X) : Type 0 where
  pub sound : All P xs
  pub complete : (x : X) → P x → Contains xs x
  pub once : NoneTwice xs

-- the run begins at s, and its steps have P
abbrev pub From : Tree → (List (ℕ × Tree) → Type 0) → StartedRun → Type 0
From s P p = (p.0 ≡ s) × P p.1

-- exactly the runs with P are in the list, each once
abbrev pub AreRuns : {S : Type 0} → (StartedRun → Type 0) → List (Run S) → Type 0
AreRuns P runs = AreExactly P (runs_of runs)

-- the met runs from s of at most n steps
abbrev pub MetFrom : {S : Type 0} → System → Tables → List (Cut S) → Tree → ℕ → StartedRun → Type 0
MetFrom sys tables cuts s n = From s (IsMetWithin (StepsBy sys tables) (InCut sys.cons cuts) n s)

-- the long runs from s of n steps
abbrev pub LongFrom : {S : Type 0} → System → Tables → List (Cut S) → Tree → ℕ → StartedRun → Type 0
LongFrom sys tables cuts s n = From s (IsLong (StepsBy sys tables) (InCut sys.cons cuts) n s)

-- the halted runs from s of at most n steps
abbrev pub HaltedFrom : {S : Type 0} → System → Tables → List (Cut S) → Tree → ℕ → StartedRun → Type 0
HaltedFrom sys tables cuts s n = From s (IsHaltedWithin (StepsBy sys tables) (InCut sys.cons cuts) n s)

-- the first-rule run from s of n steps
abbrev pub FirstRunFrom : System → Tables → Tree → ℕ → StartedRun → Type 0
FirstRunFrom sys tables s n = From s (IsFirstRun (StepsBy sys tables) n s)

-- what is new in a list is exactly what has P, each once, behind what was there
pub record AddsExactly {X : Type 0} (P : X → Type 0) (old new : List X) : Type 0 where
  pub more : List X
  pub is : new ≡ old ++ more
  pub exactly : AreExactly P more

-- the same of runs
abbrev pub AddsRuns : {S : Type 0} → (StartedRun → Type 0) → List (Run S) → List (Run S) → Type 0
AddsRuns P old new = AddsExactly P (runs_of old) (runs_of new)

-- p with the step x behind it, and with each of these steps
abbrev pub longer_run : StartedRun → ℕ × Tree → StartedRun
longer_run p x = (p.0, p.1 ++ x ∷ [])

abbrev pub with_each : StartedRun → List (ℕ × Tree) → List StartedRun
with_each p steps = map (λ x. (p.0, p.1 ++ x ∷ [])) steps

-- q is one of these runs, and ends in a state with Q
abbrev pub EndsIn : List StartedRun → (Tree → Type 0) → StartedRun → Type 0
EndsIn runs Q q = Contains runs q × Q (end_of q)

-- q is one of these runs, and ends in a state in the cut; in one outside of it
abbrev pub EndsInCut : {S : Type 0} → List Con → List (Cut S) → List (Run S) → StartedRun → Type 0
EndsInCut cons cuts runs = EndsIn (runs_of runs) (InCut cons cuts)

abbrev pub EndsOutside : {S : Type 0} → List Con → List (Cut S) → List (Run S) → StartedRun → Type 0
EndsOutside cons cuts runs = EndsIn (runs_of runs) (λ t. ¬ InCut cons cuts t)

-- q is one of these runs with one more step of the system, to a state with Q
pub record OneStepMore (Steps : ℕ → Tree → Tree → Type 0) (runs : List StartedRun) (Q : Tree → Type 0) (q : StartedRun) : Type 0 where
  pub before : StartedRun
  pub step : ℕ × Tree
  pub there : Contains runs before
  pub steps : Steps step.0 (end_of before) step.1
  pub has : Q step.1
  pub is : q ≡ (before.0, before.1 ++ step ∷ [])

-- q is one of these runs with one more step, to a state in the cut; to one outside of it
abbrev pub MeetsNext : {S : Type 0} → System → Tables → List (Cut S) → List (Run S) → StartedRun → Type 0
MeetsNext sys tables cuts runs = OneStepMore (StepsBy sys tables) (runs_of runs) (InCut sys.cons cuts)

abbrev pub StaysOutside : {S : Type 0} → System → Tables → List (Cut S) → List (Run S) → StartedRun → Type 0
StaysOutside sys tables cuts runs = OneStepMore (StepsBy sys tables) (runs_of runs) (λ t. ¬ InCut sys.cons cuts t)

-- q is one of these runs, and ends in a state without a step
pub record Stops (Steps : ℕ → Tree → Tree → Type 0) (runs : List StartedRun) (q : StartedRun) : Type 0 where
  pub there : Contains runs q
  pub stuck : IsStuck Steps (end_of q)

-- the same of the runs that moved
abbrev pub StopsMoved : (ℕ → Tree → Tree → Type 0) → List StartedRun → StartedRun → Type 0
StopsMoved Steps runs q = Stops Steps runs q × (q.1 ≢ [])

-- no rule of the semantics gives a step from s
abbrev pub IsStuckIn : System → Tables → Tree → Type 0
IsStuckIn sys tables = IsStuck (StepsBy sys tables)

-- q is one of these runs, and ends in a state without a step of the semantics; the same of those that moved
abbrev pub StopsIn : {S : Type 0} → System → Tables → List (Run S) → StartedRun → Type 0
StopsIn sys tables runs = Stops (StepsBy sys tables) (runs_of runs)

abbrev pub StopsMovedIn : {S : Type 0} → System → Tables → List (Run S) → StartedRun → Type 0
StopsMovedIn sys tables runs = StopsMoved (StepsBy sys tables) (runs_of runs)

-- the step from s by the first rule that gives one, or none where no rule does
abbrev pub IsFirstStep : {S : Type 0} → System → Tables → Tree → Option (RunStep S) → Type 0
IsFirstStep sys tables s next = MatchOption next (IsStuckIn sys tables s) (λ x. StepsFirst (StepsBy sys tables) x.rule.0 s x.state.term)

-- the run ends in a state
abbrev pub EndsInState : System → StartedRun → Type 0
EndsInState sys p = IsState sys (end_of p)

-- o is the last state of the run from s by these rules, or nothing where there is no such run
pub record LeadsTo (sys : System) (tables : Tables) (s : Tree) (rules : List ℕ) (o : Option Tree) : Type 0 where
  pub only : (t : Tree) → Ends (IsRun (StepsBy sys tables) s) s rules t → o ≡ Some t
  pub there : (t : Tree) → o ≡ Some t → Ends (IsRun (StepsBy sys tables) s) s rules t
