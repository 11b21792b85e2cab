use Rattle.std.proofs.Common.{take}
use Rattle.bit_gates.specs.Sums.{IsSum}
use Rattle.bit_gates.proofs.SumLemmas.{sum_of}
use Rattle.bit_gates.specs.Grows.{Grows}
use Rattle.bit_gates.proofs.sums.add_words.Given as goal

abbrev pub invariant-loop-i : goal.invariant-loop-i
invariant-loop-i l = record {
  extends : Grows l.fn.b l.b;
  so_far : IsSum l.b (take l.i l.x) (take l.i l.y) l.fn.c (sum_of l.bits l.carry);
}
