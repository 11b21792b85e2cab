-- Lists of all steps from a state.
use Rattle.std.specs.Prelude.{◌≡◌, ℕ, ◌<◌, true, List, map, slice_get, Option, Some, All, AllPairs}
use Rattle.std.specs.List.{Contains}
use Rattle.data_value.specs.declared.Scalar.TheVariants.{Flag}
use Rattle.data_value.specs.declared.Value.{Value}
use Rattle.data_value.specs.declared.Value.TheVariants.{One}
use Rattle.sort_term.specs.declared.term.Config.{Config}
use Rattle.sort_term.specs.Tree.{Tree}
use Rattle.sort_term.specs.System.{System}
use Rattle.sort_term.specs.Step.{Tables, StepsBy}
use Rattle.unify.specs.declared.branch.Branch.{Branch}
use Rattle.ground_step.specs.declared.run.RunStep.{RunStep}

-- the tree of a state
abbrev pub term_of : {S : Type 0} → Config S Value → Tree
term_of state = state.term

-- a step of a run as the number of its rule and its state
abbrev pub step_of : {S : Type 0} → RunStep S → ℕ × Tree
step_of x = (x.rule.0, x.state.term)

abbrev pub steps_of : {S : Type 0} → List (RunStep S) → List (ℕ × Tree)
steps_of steps = map step_of steps

-- the rule with the number n takes s to o, or nowhere
pub record StepIs (sys : System) (tables : Tables) (n : ℕ) (s : Tree) (o : Option Tree) : Type 0 where
  pub only : (t : Tree) → StepsBy sys tables n s t → o ≡ Some t
  pub there : (t : Tree) → o ≡ Some t → StepsBy sys tables n s t

-- a branch over values as nodes whose condition is true, and the place of one
abbrev pub IsTrueBranch : {S : Type 0} → Branch S Value → Type 0
IsTrueBranch b = b.condition ≡ One (Flag true)

abbrev pub IsTrueBranchAt : {S : Type 0} → List (Branch S Value) → ℕ → Type 0
IsTrueBranchAt {S} branches i = (b : Branch S Value) × (slice_get branches i ≡ Some b) × IsTrueBranch b

-- all steps from s, in the order of the rules
pub record AreSteps (sys : System) (tables : Tables) (s : Tree) (steps : List (ℕ × Tree)) : Type 0 where
  -- each is a step
  pub sound : All (λ x. StepsBy sys tables x.0 s x.1) steps
  -- each step is among them
  pub complete : (n : ℕ) (t : Tree) → StepsBy sys tables n s t → Contains steps (n, t)
  -- no rule twice, and each after those with smaller numbers
  pub rising : AllPairs (λ x y. x.0 < y.0) steps
