use Rattle.bit_gates.proofs.KnownLemmas.{or_from_and}
use Rattle.bit_gates.proofs.gates.or.Goals as goal

pub returns-clause-made : goal.returns-clause-made
returns-clause-made c = or_from_and c.and.new.b c.args.x c.args.y c.flip.result c.flip-2.result c.in_ok-neither.neither c.flip-3.result c.flip.ensures c.flip-2.ensures c.in_ok-neither.ensures.made c.flip-3.ensures
