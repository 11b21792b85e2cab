use Rattle.std.proofs.Common.{◌*◌, take, length}
use Rattle.data_value.specs.Words.{wrap}
use Rattle.bit_gates.specs.Bits.{number}
use Rattle.bit_gates.specs.Grows.{Grows}
use Rattle.bit_gates.specs.Meaning.{IsWord}
use Rattle.bit_gates.proofs.product.multiply.Given as goal

abbrev pub invariant-loop-i : goal.invariant-loop-i
invariant-loop-i l = record {
  extends : Grows l.fn.b l.b;
  so_far : IsWord l.b l.sum (length l.x) (λ a. wrap (length l.x) (number a l.x * number a (take l.i l.y)));
}
