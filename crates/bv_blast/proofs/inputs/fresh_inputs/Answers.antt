use Rattle.bv_blast.proofs.FreeLemmas.{frees_none, frees_more}
use Rattle.bv_blast.proofs.inputs.fresh_inputs.Goals as goal

pub loop-width-init : goal.loop-width-init
loop-width-init c = frees_none c.args.b.now c.new-inputs.result c.args.widths.now c.new-inputs.ensures

pub loop-width-preserved : goal.loop-width-preserved
loop-width-preserved c =
    frees_more c.args.b.now c.loop-width.b c.fresh_bits.new.b c.loop-width.inputs c.push.new.self c.args.widths.now c.in_ok-bits.bits c.loop-width.width-index
    c.requires c.loop-width-test.true c.loop-width.invariant c.in_ok-bits.ensures c.in_ok-push.ensures.ok
