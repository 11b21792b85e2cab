use Rattle.bit_gates.proofs.RangeLemmas.{one_below}
use Rattle.bit_gates.proofs.builder.Builder.demand.Goals as goal

pub add-requires : goal.add-requires
add-requires c = rw c.in_ok-clause.ensures (one_below _ _ c.requires)
