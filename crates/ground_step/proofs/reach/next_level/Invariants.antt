use Rattle.std.proofs.Common.{All}
use Rattle.std.specs.Vec.Iter.{into_iter_items, into_iter_len}
use Rattle.sort_term.specs.Step.{StepsBy}
use Rattle.sort_term.specs.Cuts.{InCut}
use Rattle.ground_step.specs.Reach.{EndsInState, AreExactly, AddsExactly, OneStepMore, StopsMoved, runs_of}
use Rattle.ground_step.proofs.Growing.{InTurn}
use Rattle.ground_step.proofs.reach.next_level.Given as goal

abbrev pub invariant-loop-run : goal.invariant-loop-run
invariant-loop-run g l = record {
  turn : InTurn (into_iter_items l.initial.run-iterator) l.yielded (into_iter_items l.run-iterator) (into_iter_len l.run-iterator);
  states : All (EndsInState l.semantics) (runs_of (into_iter_items l.run-iterator));
  outside : AreExactly (OneStepMore (StepsBy l.semantics l.program) (runs_of l.yielded) (λ t. ¬ InCut l.semantics.cons l.cuts t)) (runs_of l.longer.items);
  met : AddsExactly (OneStepMore (StepsBy l.semantics l.program) (runs_of l.yielded) (InCut l.semantics.cons l.cuts)) (runs_of l.initial.met) (runs_of l.met);
  halted : AddsExactly (StopsMoved (StepsBy l.semantics l.program) (runs_of l.yielded)) (runs_of l.initial.halted) (runs_of l.halted);
}
