use Rattle.std.proofs.Common.{sym, refl}
use Rattle.refute_check.specs.Truth.{assigned}
use Rattle.bit_gates.proofs.NumberLemmas.{number_nil}
use Rattle.bv_blast.proofs.ModelLemmas.{more_bits, sum_fits}
use Rattle.bv_blast.proofs.reading.word_of.Goals as goal

pub loop-i-init : goal.loop-i-init
loop-i-init c = sym (number_nil (assigned c.args.model.now))

pub overflow_add-word : goal.overflow_add-word
overflow_add-word c = sum_fits (assigned c.args.model.now) c.args.bits.now c.loop-i.i c.loop-i.word _ c.loop-i.invariant refl c.loop-i-test.true c.requires.width.1

pub loop-i-preserved : goal.loop-i-preserved
loop-i-preserved c = more_bits (assigned c.args.model.now) c.args.bits.now c.loop-i.i c.loop-i.word _ c.loop-i.invariant refl c.loop-i-test.true c.requires.width.1
