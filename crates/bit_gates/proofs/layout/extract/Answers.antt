use Rattle.bit_gates.proofs.LayoutLemmas.{is_extract}
use Rattle.bit_gates.proofs.layout.extract.Goals as goal

pub returns : goal.returns
returns c = is_extract c.args.b.now c.args.x.now c.in_ok-from_slice.field-0 c.args.high c.args.low c.requires.x c.requires.some c.requires.within c.in_ok-from_slice.ensures
