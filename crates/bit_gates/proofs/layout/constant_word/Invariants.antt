use Rattle.std.proofs.Common.{◌≡◌, ◌%◌, ◌/◌, ◌^◌}
use Rattle.bit_gates.specs.Meaning.{IsWord}
use Rattle.bit_gates.proofs.layout.constant_word.Given as goal

abbrev pub invariant-loop-i : goal.invariant-loop-i
invariant-loop-i l = record {
  so_far : IsWord l.b l.bits l._i (λ a. l.fn.value % 2 ^ l._i);
  rest : l.rest ≡ l.fn.value / 2 ^ l._i;
}
