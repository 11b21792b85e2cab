use Rattle.std.proofs.Common.{take, if◌then◌else◌}
use Rattle.refute_check.specs.Truth.{lit_true}
use Rattle.bit_gates.specs.Bits.{number}
use Rattle.bit_gates.specs.Grows.{Grows}
use Rattle.bit_gates.specs.Meaning.{IsWord}
use Rattle.bit_gates.proofs.bitwise.mux_words.Given as goal

abbrev pub invariant-loop-i : goal.invariant-loop-i
invariant-loop-i l = record {
  extends : Grows l.fn.b l.b;
  so_far : IsWord l.b l.bits l.i (λ a. if lit_true a l.s then number a (take l.i l.x) else number a (take l.i l.y));
}
