use Rattle.std.proofs.Common.{arith}
use Rattle.bit_gates.proofs.KnownLemmas.{first_added, first_below, grounded_first}
use Rattle.bit_gates.proofs.builder.Builder.new.Goals as goal

pub invariant_of-clauses : goal.invariant_of-clauses
invariant_of-clauses c = record { scoped = first_below _ (first_added _ _ _ _ c.in_ok-push.ensures.ok c.new-list.ensures c.in_ok-first.ensures c.constant.ensures) }

pub invariant_of-result : goal.invariant_of-result
invariant_of-result c = record {
  some = omega arith;
  grounded = grounded_first _ (first_added _ _ _ _ c.in_ok-push.ensures.ok c.new-list.ensures c.in_ok-first.ensures c.constant.ensures);
}
