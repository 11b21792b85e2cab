-- The cut of a side, and the runs of a semantics with a program up to it.
use Rattle.std.specs.Prelude.{◌≡◌, ℕ, List, slice_get, Some, All}
use Rattle.sort_term.specs.declared.semantics.Con.{Con}
use Rattle.sort_term.specs.declared.points.Cut.{Cut}
use Rattle.sort_term.specs.declared.rule.RuleExpr.{RuleExpr}
use Rattle.sort_term.specs.System.{System}
use Rattle.sort_term.specs.Tree.{Tree, Trees, pattern_value, value, IsTrueTree}
use Rattle.sort_term.specs.Sorted.{IsValuationOf}
use Rattle.sort_term.specs.Step.{Tables, StepsBy}
use Rattle.sort_term.specs.Runs.{IsMet, IsLong, IsHalted, Succeeds}

-- each condition is true under the valuation
abbrev pub AllTrue : Trees → List RuleExpr → Type 0
AllTrue v whens = All (λ e. IsTrueTree (value v e)) whens

-- an item of the cut covers s under v: its pattern has the value s, and its conditions are true
pub record Covers {S : Type 0} (cons : List Con) (item : Cut S) (v : Trees) (s : Tree) : Type 0 where
  pub fits : IsValuationOf cons item.vars v
  pub pattern : pattern_value v item.pattern ≡ s
  pub whens : AllTrue v item.whens

-- some valuation of the item's variables makes it cover s
abbrev pub IsCovered : {S : Type 0} → List Con → Cut S → Tree → Type 0
IsCovered cons item s = (v : Trees) × Covers cons item v s

-- in the cut: some item of the cut covers s under some valuation
pub record InCut {S : Type 0} (cons : List Con) (cuts : List (Cut S)) (s : Tree) : Type 0 where
  pub place : ℕ
  pub item : Cut S
  pub there : slice_get cuts place ≡ Some item
  pub valuation : Trees
  pub covers : Covers cons item valuation s

-- the met, long and halted runs of a semantics with a program, and its cut successors
abbrev pub IsMetIn : {S : Type 0} → System → Tables → List (Cut S) → Tree → List (ℕ × Tree) → Type 0
IsMetIn sys tables cuts = IsMet (StepsBy sys tables) (InCut sys.cons cuts)

abbrev pub IsLongIn : {S : Type 0} → System → Tables → List (Cut S) → ℕ → Tree → List (ℕ × Tree) → Type 0
IsLongIn sys tables cuts = IsLong (StepsBy sys tables) (InCut sys.cons cuts)

abbrev pub IsHaltedIn : {S : Type 0} → System → Tables → List (Cut S) → Tree → List (ℕ × Tree) → Type 0
IsHaltedIn sys tables cuts = IsHalted (StepsBy sys tables) (InCut sys.cons cuts)

abbrev pub SucceedsIn : {S : Type 0} → System → Tables → List (Cut S) → Tree → Tree → Type 0
SucceedsIn sys tables cuts = Succeeds (StepsBy sys tables) (InCut sys.cons cuts)
