use Rattle.bv_blast.proofs.PlaceLemmas.{equal_place}
use Rattle.bv_blast.proofs.operator.on_flags.Goals as goal

pub returns-in_ok-xor-in-Eq-clause-made : goal.returns-in_ok-xor-in-Eq-clause-made
returns-in_ok-xor-in-Eq-clause-made c = rw (c.in-Eq.is, c.flip.ensures) (equal_place c.xor.new.b c.args.x c.args.y c.in_ok-xor-in-Eq.field-0 c.in_ok-xor-in-Eq.ensures.made)
