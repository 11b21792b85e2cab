use Rattle.bit_gates.specs.Free.{IsFree}
use Rattle.bit_gates.proofs.free.fresh_word.Given as goal

abbrev pub invariant-loop-i : goal.invariant-loop-i
invariant-loop-i l = IsFree l.fn.b l.b l.bits l._i
