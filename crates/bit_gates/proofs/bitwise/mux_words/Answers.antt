use Rattle.std.proofs.Common.{◌<◌, ◌≡◌, length, arith}
use Rattle.bit_gates.proofs.RangeLemmas.{clause_below_more, clause_below_get}
use Rattle.bit_gates.proofs.ExtendLemmas.{extends_refl, extends_trans}
use Rattle.bit_gates.proofs.PushLemmas.{chosen_none, chosen_more, chosen_all}
use Rattle.bit_gates.proofs.bitwise.mux_words.Goals as goal

pub loop-i-init : goal.loop-i-init
loop-i-init c = record {
  extends = extends_refl _ _;
  so_far = chosen_none c.args.b.now c.args.x.now c.args.y.now _ c.args.s c.new-bits.ensures;
}

pub mux-requires-clause-x : goal.mux-requires-clause-x
mux-requires-clause-x c =
    clause_below_get _ _ _ _ (clause_below_more _ _ _ c.loop-i.invariant.extends.grows c.requires.x) c.loop-i-test.true

pub mux-requires-clause-y : goal.mux-requires-clause-y
mux-requires-clause-y c =
    let l : c.loop-i.i < length c.args.y.now = omega arith in
    clause_below_get _ _ _ _ (clause_below_more _ _ _ c.loop-i.invariant.extends.grows c.requires.y) l

pub loop-i-preserved : goal.loop-i-preserved
loop-i-preserved c = record {
  extends = extends_trans c.loop-i.invariant.extends c.in_ok-bit.ensures.extends;
  so_far = chosen_more c.loop-i.b c.mux.new.b c.args.x.now c.args.y.now c.loop-i.bits _ c.args.s c.in_ok-bit.bit _ c.loop-i.i
      c.loop-i.invariant.so_far c.in_ok-bit.ensures.extends c.in_ok-bit.ensures.made c.in_ok-push.ensures.ok c.loop-i-test.true c.requires.same;
}

pub returns-clause-extends : goal.returns-clause-extends
returns-clause-extends c = c.loop-i.invariant.extends

pub returns-clause-made : goal.returns-clause-made
returns-clause-made c =
    let e : c.loop-i.i ≡ length c.args.x.now = omega arith in
    chosen_all c.loop-i.b c.args.x.now c.args.y.now c.loop-i.bits c.args.s c.loop-i.i e c.requires.same c.loop-i.invariant.so_far
