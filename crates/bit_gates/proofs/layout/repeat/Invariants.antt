use Rattle.std.proofs.Common.{◌≡◌, replicate}
use Rattle.bit_gates.proofs.layout.repeat.Given as goal

abbrev pub invariant-loop-i : goal.invariant-loop-i
invariant-loop-i l = l.bits ≡ replicate l._i l.lit
