use Rattle.refute_check.specs.Truth.{assigned}
use Rattle.bv_blast.proofs.ModelLemmas.{words_more}
use Rattle.bv_blast.proofs.reading.words.Goals as goal

pub loop-bits-preserved : goal.loop-bits-preserved
loop-bits-preserved c =
    words_more (assigned c.args.model.now) c.as_slice-bits-items.result.now c.loop-bits.bits-index c.word_of.result c.bits-item.result c.loop-bits.words c.push.new.self
    c.loop-bits.invariant (rw (c.as_slice.ensures, c.as_slice-in-loop-bits.ensures) at c.word_of.ensures) c.bits-item.is c.in_ok-push.ensures.ok c.loop-bits-test.true
