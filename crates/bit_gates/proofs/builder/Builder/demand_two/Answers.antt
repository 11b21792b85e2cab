use Rattle.bit_gates.proofs.RangeLemmas.{two_below}
use Rattle.bit_gates.proofs.builder.Builder.demand_two.Goals as goal

pub add-requires : goal.add-requires
add-requires c = rw c.in_ok-clause.ensures (two_below _ _ _ c.requires.x c.requires.y)
