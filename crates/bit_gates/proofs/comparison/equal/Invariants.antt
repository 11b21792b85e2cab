use Rattle.std.proofs.Common.{take, ◌==◌}
use Rattle.bit_gates.specs.Bits.{number}
use Rattle.bit_gates.specs.Grows.{Grows}
use Rattle.bit_gates.specs.Meaning.{IsBit}
use Rattle.bit_gates.proofs.comparison.equal.Given as goal

abbrev pub invariant-loop-i : goal.invariant-loop-i
invariant-loop-i l = record {
  extends : Grows l.fn.b l.b;
  so_far : IsBit l.b l.all (λ a. number a (take l.i l.x) == number a (take l.i l.y));
}
