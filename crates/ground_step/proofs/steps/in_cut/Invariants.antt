use Rattle.std.proofs.Common.{take, All}
use Rattle.ground_step.proofs.steps.in_cut.Given as goal
use Rattle.sort_term.specs.Cuts.{IsCovered}

abbrev pub invariant-loop-cut : goal.invariant-loop-cut
invariant-loop-cut g l = All (λ item. ¬ IsCovered l.semantics.cons item l.state.term) (take l.cut-index l.cut-items)
