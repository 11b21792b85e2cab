use Rattle.std.proofs.Common.{ℕ, ◌<◌}
use Rattle.sort_term.specs.Tree.{Tree}
use Rattle.sort_term.specs.Step.{StepsBy}
use Rattle.ground_step.proofs.first.first_step.Given as goal

-- no rule before this one gives a step
abbrev pub invariant-loop-place : goal.invariant-loop-place
invariant-loop-place g l = (m : ℕ) (u : Tree) → m < l.place → ¬ StepsBy l.semantics l.program m l.state.term u
