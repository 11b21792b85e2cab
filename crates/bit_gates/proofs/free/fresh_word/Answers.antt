use Rattle.bit_gates.proofs.FreeLemmas.{free_none, free_more}
use Rattle.bit_gates.proofs.free.fresh_word.Goals as goal

pub loop-i-init : goal.loop-i-init
loop-i-init c = free_none c.args.b.now _ c.new-bits.ensures

pub loop-i-preserved : goal.loop-i-preserved
loop-i-preserved c = free_more c.args.b.now c.loop-i.b c.fresh.new.self c.loop-i.bits _ c.loop-i._i c.in_ok-bit.bit c.loop-i.invariant c.in_ok-bit.ensures.made c.in_ok-bit.ensures.more c.in_ok-bit.ensures.same c.in_ok-push.ensures.ok
