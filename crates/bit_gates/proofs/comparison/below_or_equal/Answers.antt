use Rattle.bit_gates.specs.Bits.{number}
use Rattle.bit_gates.proofs.SumLemmas.{is_at_most}
use Rattle.bit_gates.proofs.comparison.below_or_equal.Goals as goal

pub returns-clause-made : goal.returns-clause-made
returns-clause-made c = is_at_most c.below.new.b (λ a. number a c.args.x.now) (λ a. number a c.args.y.now) c.in_ok-above.above c.flip.result c.flip.ensures c.in_ok-above.ensures.made
