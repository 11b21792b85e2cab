use Rattle.std.proofs.Common.{◌≡◌, take}
use Rattle.data_value.specs.Nodes.{Extends}
use Rattle.data_value.specs.Truth.{IsTruth}
use Rattle.unify.specs.Branches.{seen_branches}
use Rattle.path_condition.specs.Leaves.{seen_leaves}
use Rattle.symbolic_step.specs.OneStep.{seen_path}
use Rattle.symbolic_step.specs.Ends.{AreTaken, some_holds}
use Rattle.symbolic_step.proofs.by_rule.by_rule.Given as goal

-- the leaves and the condition of the branches so far
abbrev pub invariant-loop-branch : goal.invariant-loop-branch
invariant-loop-branch g l =
    let look = g.D.Domain.look in
    let first = look l.initial.d in
    let so_far = take l.branch-index (seen_branches first l.branch-items) in
    record {
      extends : Extends first (look l.d);
      same_variables : g.D.Domain.variables l.d ≡ g.D.Domain.variables l.initial.d;
      taken : AreTaken l.semantics (seen_path first l.path) l.rule.0 so_far (seen_leaves (look l.d) l.leaves);
      applies : IsTruth (look l.d l.applies) (some_holds so_far);
    }
