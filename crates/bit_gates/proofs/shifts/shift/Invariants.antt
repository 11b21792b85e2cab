use Rattle.std.proofs.Common.{length}
use Rattle.bit_gates.specs.Grows.{Grows}
use Rattle.bit_gates.proofs.ShiftLemmas.{IsMoving, IsStep}
use Rattle.bit_gates.proofs.shifts.shift.Given as goal

abbrev pub invariant-loop-j : goal.invariant-loop-j
invariant-loop-j l = record {
  extends : Grows l.fn.b l.b;
  so_far : IsMoving l.b l.way l.x l.y l.word l.long l.j;
  step : IsStep l.step l.j (length l.x);
}
