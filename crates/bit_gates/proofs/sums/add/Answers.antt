use Rattle.bit_gates.proofs.SumLemmas.{is_added}
use Rattle.bit_gates.proofs.sums.add.Goals as goal

pub returns-clause-made : goal.returns-clause-made
returns-clause-made c = is_added c.add_words.new.b c.args.x.now c.args.y.now c.in_ok-sum.sum.bits c.constant.result c.in_ok-sum.sum.carry c.constant.ensures c.in_ok-sum.ensures.made
