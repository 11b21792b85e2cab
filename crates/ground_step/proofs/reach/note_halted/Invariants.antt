use Rattle.std.proofs.Common.{take}
use Rattle.sort_term.specs.Step.{StepsBy}
use Rattle.ground_step.specs.Reach.{AddsExactly, Stops, runs_of}
use Rattle.ground_step.proofs.reach.note_halted.Given as goal

abbrev pub invariant-loop-run : goal.invariant-loop-run
invariant-loop-run g l = AddsExactly (Stops (StepsBy l.semantics l.program) (runs_of (take l.run-index l.runs))) (runs_of l.initial.halted) (runs_of l.halted)
