use Rattle.bit_gates.proofs.RangeLemmas.{three_below}
use Rattle.bit_gates.proofs.builder.Builder.demand_three.Goals as goal

pub add-requires : goal.add-requires
add-requires c = rw c.in_ok-clause.ensures (three_below _ _ _ _ c.requires.x c.requires.y c.requires.z)
