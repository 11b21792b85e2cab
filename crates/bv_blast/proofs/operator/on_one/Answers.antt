use Rattle.bv_blast.proofs.PlaceLemmas.{not_place}
use Rattle.bv_blast.proofs.operator.on_one.Goals as goal

pub returns-in-Not-clause-made : goal.returns-in-Not-clause-made
returns-in-Not-clause-made c = rw (c.in-Not.is, c.in-Flag.is, c.flip.ensures) (not_place c.args.b.now c.in-Flag.x (rw c.in-Flag.is at c.requires.x))
