use Rattle.std.proofs.Common.{◌≡◌, All}
use Rattle.data_value.specs.Nodes.{Extends}
use Rattle.sort_term.specs.NodeTerms.{seen_term}
use Rattle.sort_term.specs.Step.{StepsBy}
use Rattle.path_condition.specs.Leaves.{AreLeaves, seen_leaves}
use Rattle.symbolic_step.specs.OneStep.{start_of, seen_path, StepsFrom, StepsBelow, IsLive, IsStuckWhere}
use Rattle.symbolic_step.proofs.next.step.Given as goal

-- what the rules so far give
abbrev pub invariant-loop-place : goal.invariant-loop-place
invariant-loop-place g l =
    let look = g.D.Domain.look in
    let first = look l.fn.d in
    let start = start_of (seen_path first l.path) (seen_term first l.config.term) in
    let Steps = StepsBelow l.place (StepsBy l.semantics l.program) in
    record {
      extends : Extends first (look l.d);
      same_variables : g.D.Domain.variables l.d ≡ g.D.Domain.variables l.fn.d;
      are : AreLeaves (g.D.Domain.variables l.fn.d) l.semantics (StepsFrom Steps start) (seen_leaves (look l.d) l.leaves);
      live : All IsLive (seen_leaves (look l.d) l.leaves);
      stuck : IsStuckWhere (g.D.Domain.variables l.fn.d) Steps start (look l.d l.stuck);
    }
