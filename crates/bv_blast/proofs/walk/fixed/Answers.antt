use Rattle.bv_blast.proofs.PlaceLemmas.{fixed_flag, fixed_word}
use Rattle.bv_blast.proofs.walk.fixed.Goals as goal

pub returns-in-Flag : goal.returns-in-Flag
returns-in-Flag c = rw c.in-Flag.is (fixed_flag c.args.b.now c.in-Flag.value c.constant.result c.constant.ensures)

pub returns-in_ok-constant_word-in-Bits : goal.returns-in_ok-constant_word-in-Bits
returns-in_ok-constant_word-in-Bits c =
    let scalar = rw c.in-Bits.is at c.requires in
    rw c.in-Bits.is (fixed_word c.args.b.now c.in-Bits.width c.in-Bits.bits c.in_ok-constant_word-in-Bits.field-0 scalar.1 c.in_ok-constant_word-in-Bits.ensures)
