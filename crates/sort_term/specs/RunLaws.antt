-- Laws of runs, steps and verdicts.
use Rattle.std.specs.Prelude.{◌≡◌, ◌↔◌, ℕ, ◌≤◌, List, [], length}
use Rattle.sort_term.specs.declared.semantics.Con.{Con}
use Rattle.sort_term.specs.declared.semantics.Table.{Table}
use Rattle.sort_term.specs.declared.ids.SortId.{SortId}
use Rattle.sort_term.specs.declared.points.Cut.{Cut}
use Rattle.sort_term.specs.declared.points.Point.{Point}
use Rattle.sort_term.specs.declared.problem.Problem.{Problem}
use Rattle.sort_term.specs.declared.rule.Rule.{Rule}
use Rattle.sort_term.specs.System.{System}
use Rattle.sort_term.specs.Tree.{Tree, Trees}
use Rattle.sort_term.specs.Rules.{IsRule, IsSemantics}
use Rattle.sort_term.specs.Problems.{IsCut}
use Rattle.sort_term.specs.Step.{Tables, Takes, StepsBy}
use Rattle.sort_term.specs.Runs.{IsRun, rules_of, MetTo}
use Rattle.sort_term.specs.Cuts.{InCut, Covers, IsMetIn, IsLongIn, IsHaltedIn, SucceedsIn}
use Rattle.sort_term.specs.Relation.{right, RightMisses, RightFails}
use Rattle.sort_term.specs.Verdict.{Kind, refines, IsVerdict}

-- where no run of n steps from s keeps its later states outside the cut, every met run from s has at most n steps
abbrev pub MetRunsAreShort : Type 0 → Type 0
MetRunsAreShort S =
    (sys : System) (tables : Tables) (cuts : List (Cut S)) (n : ℕ) (s : Tree) → ((run : List (ℕ × Tree)) → ¬ IsLongIn sys tables cuts n s run) → (run : List (ℕ × Tree)) → IsMetIn sys tables cuts s run → length run ≤ n

-- and every halted run has
abbrev pub HaltedRunsAreShort : Type 0 → Type 0
HaltedRunsAreShort S =
    (sys : System) (tables : Tables) (cuts : List (Cut S)) (n : ℕ) (s : Tree) → ((run : List (ℕ × Tree)) → ¬ IsLongIn sys tables cuts n s run) → (run : List (ℕ × Tree)) → IsHaltedIn sys tables cuts s run → length run ≤ n

-- so the cut successors of s are the last states of the met runs of at most n steps
abbrev pub SuccessorsAreNear : Type 0 → Type 0
SuccessorsAreNear S =
    (sys : System) (tables : Tables) (cuts : List (Cut S)) (n : ℕ) (s t : Tree) → ((run : List (ℕ × Tree)) → ¬ IsLongIn sys tables cuts n s run) → SucceedsIn sys tables cuts s t ↔ ((rules : List ℕ) × MetTo (StepsBy sys tables) (InCut sys.cons cuts) n s rules t)

-- a problem has at most one verdict for a number of steps
abbrev pub OneVerdict : Type 0
OneVerdict = (q : Problem) (n : ℕ) (k l : Kind) → IsVerdict q n k → IsVerdict q n l → k ≡ l

-- without undefined items the right fails where it misses, and no problem refines on the right side
abbrev pub UndefinedItemsAloneExcuse : Type 0
UndefinedItemsAloneExcuse =
    (q : Problem) → q.points.undefs ≡ [] → ((p : Point) → RightMisses q p ↔ RightFails q p) × ((n k : ℕ) → ¬ IsVerdict q n (refines k right))

-- a rule that passed its checks takes a state to at most one state, and under at most one valuation
abbrev pub OneInstance : Type 0
OneInstance =
    (cons : List Con) (declared : List Table) (config : SortId) (r : Rule) → IsRule cons declared config r → (tables : Tables) (v w : Trees) (s t u : Tree) → Takes cons tables r v s t → Takes cons tables r w s u → (v ≡ w) × (t ≡ u)

-- so each rule of a semantics gives at most one step from a state
abbrev pub OneStep : Type 0
OneStep =
    (sys : System) → IsSemantics sys → (tables : Tables) (n : ℕ) (s t u : Tree) → StepsBy sys tables n s t → StepsBy sys tables n s u → t ≡ u

-- the rules alone fix a run of a semantics from a state
abbrev pub RulesFixRuns : Type 0
RulesFixRuns =
    (sys : System) → IsSemantics sys → (tables : Tables) (s : Tree) (xs ys : List (ℕ × Tree)) → IsRun (StepsBy sys tables) s xs → IsRun (StepsBy sys tables) s ys → rules_of xs ≡ rules_of ys → xs ≡ ys

-- an item of a cut that passed its checks covers a state under at most one valuation
abbrev pub OneCover : Type 0 → Type 0
OneCover S = (sys : System) (item : Cut S) → IsCut sys item → (v w : Trees) (s : Tree) → Covers sys.cons item v s → Covers sys.cons item w s → v ≡ w
