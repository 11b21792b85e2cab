use Rattle.sort_term.specs.Step.{StepsBy}
use Rattle.sort_term.specs.Cuts.{InCut}
use Rattle.ground_step.specs.Reach.{AreExactly, LongFrom, MetFrom, runs_of}
use Rattle.ground_step.proofs.Levels.{HaltedBefore}
use Rattle.ground_step.proofs.reach.cut_successors.Given as goal

abbrev pub invariant-loop-level : goal.invariant-loop-level
invariant-loop-level g l = record {
  met : AreExactly (MetFrom l.semantics l.program l.cuts l.state.term l._level) (runs_of l.met);
  long : AreExactly (LongFrom l.semantics l.program l.cuts l.state.term l._level) (runs_of l.outside.items);
  halted : AreExactly (HaltedBefore (StepsBy l.semantics l.program) (InCut l.semantics.cons l.cuts) l.state.term l._level) (runs_of l.halted);
}
