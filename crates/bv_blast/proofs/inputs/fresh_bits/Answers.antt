use Rattle.std.proofs.Common.{◌≡◌, ap, arith}
use Rattle.refute_check.specs.declared.lit.Lit.{Lit}
use Rattle.bv_blast.proofs.FreeLemmas.{free_none, free_more}
use Rattle.bv_blast.proofs.inputs.fresh_bits.Goals as goal

pub loop-i-init : goal.loop-i-init
loop-i-init c = free_none c.args.b.now c.new-bits.result c.new-bits.ensures

pub loop-i-preserved : goal.loop-i-preserved
loop-i-preserved c =
    free_more c.args.b.now c.loop-i.b c.fresh.new.self c.loop-i.bits c.push.new.self c.loop-i._i c.in_ok-bit.bit.var c.loop-i.invariant
    (ap (λ (l : Lit). l.var) c.in_ok-bit.ensures.made) c.in_ok-bit.ensures.more c.in_ok-bit.ensures.same c.in_ok-push.ensures.ok

pub returns : goal.returns
returns c =
    let all : c.loop-i._i ≡ c.args.width = omega arith in
    rw all at c.loop-i.invariant
