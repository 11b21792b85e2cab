-- Lists of leaves of which questions are asked.
use Rattle.std.specs.Prelude.{◌≡◌, ℕ, ◌+◌, ◌++◌, List, [], ◌∷◌, All}
use Rattle.data_value.specs.declared.DataSort.{DataSort}
use Rattle.data_value.specs.declared.Value.{Value}
use Rattle.data_value.specs.Nodes.{IsValuation}
use Rattle.data_value.specs.Truth.{IsCondition, truth}
use Rattle.data_value.specs.Views.{BeginsWith}
use Rattle.sort_term.specs.NodeTerms.{tree_of}
use Rattle.path_condition.specs.Leaves.{SeenLeaf}
use Rattle.point_questions.specs.declared.grounding.Escape.{Escape}
use Rattle.point_questions.specs.declared.grounding.Escape.TheVariants as escape
use Rattle.ground_step.specs.declared.verdict.SideName.{SideName}
use Rattle.point_questions.specs.declared.question.Flaw.{Flaw}
use Rattle.point_questions.specs.declared.question.Flaw.TheVariants.{Long, Halted}
use Rattle.point_questions.specs.Questions.{SeenPoint, SeenQuestion}

-- the conditions of leaves are nodes of sort bool
abbrev pub HaveConditions : {N : Type 0} → List (SeenLeaf N) → Type 0
HaveConditions leaves = All (λ l. IsCondition l.condition) leaves

-- the flaw that a leaf shows which doesn't come to the cut
abbrev pub run_flaw : Escape → SideName → ℕ → Flaw
run_flaw escape.Long s i = Long s i
run_flaw escape.Halted s i = Halted s i

-- a question for each leaf, whether it holds: of the flaw with the leaf's number, from this number on
abbrev pub numbered : {N : Type 0} → (ℕ → Flaw) → ℕ → List (SeenLeaf N) → List (SeenQuestion N)
numbered make k [] = []
numbered make k (l ∷ leaves) = record { flaw = make k; formula = l.condition } ∷ numbered make (k + 1) leaves

-- what a leaf says doesn't hang on variables behind these
pub record IsLeafOver {N : Type 0} (variables : List DataSort) (l : SeenLeaf N) : Type 0 where
  pub condition : (v w : List Value) → IsValuation variables v → truth l.condition (v ++ w) ≡ truth l.condition v
  pub state : (v w : List Value) → IsValuation variables v → tree_of (v ++ w) l.state ≡ tree_of v l.state

-- the met leaves of a point are over these variables, which are the first of those that there are now
pub record IsOver {N : Type 0} (variables now : List DataSort) (x : SeenPoint N) : Type 0 where
  pub begins : BeginsWith now variables
  pub left : All (IsLeafOver variables) x.left.met
  pub right : All (IsLeafOver variables) x.right.met
