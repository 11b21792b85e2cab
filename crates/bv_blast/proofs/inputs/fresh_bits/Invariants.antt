use Rattle.std.proofs.Common.{map}
use Rattle.bit_gates.specs.Free.{IsFree}
use Rattle.bv_blast.specs.Inputs.{positive}
use Rattle.bv_blast.proofs.inputs.fresh_bits.Given as goal

abbrev pub invariant-loop-i : goal.invariant-loop-i
invariant-loop-i l = IsFree l.fn.b l.b (map positive l.bits) l._i
