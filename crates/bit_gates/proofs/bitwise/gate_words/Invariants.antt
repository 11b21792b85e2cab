use Rattle.std.proofs.Common.{take}
use Rattle.bit_gates.specs.Bits.{number}
use Rattle.bit_gates.specs.Gates.{gate_number}
use Rattle.bit_gates.specs.Grows.{Grows}
use Rattle.bit_gates.specs.Meaning.{IsWord}
use Rattle.bit_gates.proofs.bitwise.gate_words.Given as goal

abbrev pub invariant-loop-i : goal.invariant-loop-i
invariant-loop-i l = record {
  extends : Grows l.fn.b l.b;
  so_far : IsWord l.b l.bits l.i (λ a. gate_number l.gate (number a (take l.i l.x)) (number a (take l.i l.y)));
}
