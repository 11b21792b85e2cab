use Rattle.bit_gates.proofs.ExtendLemmas.{extends_trans}
use Rattle.bit_gates.proofs.sums.add_bits.Goals as goal

pub returns-clause-extends : goal.returns-clause-extends
returns-clause-extends c = extends_trans c.in_ok-differ.ensures.extends (extends_trans c.in_ok-low.ensures.extends c.in_ok-high.ensures.extends)
