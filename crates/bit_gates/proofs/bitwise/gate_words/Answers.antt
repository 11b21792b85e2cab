use Rattle.std.proofs.Common.{◌<◌, ◌≡◌, length, arith}
use Rattle.bit_gates.proofs.RangeLemmas.{clause_below_more, clause_below_get}
use Rattle.bit_gates.proofs.ExtendLemmas.{extends_refl, extends_trans}
use Rattle.bit_gates.proofs.PushLemmas.{gates_none, gates_more, gates_all}
use Rattle.bit_gates.proofs.bitwise.gate_words.Goals as goal

pub loop-i-init : goal.loop-i-init
loop-i-init c = record {
  extends = extends_refl _ _;
  so_far = gates_none c.args.b.now c.args.gate c.args.x.now c.args.y.now _ c.new-bits.ensures;
}

pub gate_lit-requires-clause-x : goal.gate_lit-requires-clause-x
gate_lit-requires-clause-x c =
    clause_below_get _ _ _ _ (clause_below_more _ _ _ c.loop-i.invariant.extends.grows c.requires.x) c.loop-i-test.true

pub gate_lit-requires-clause-y : goal.gate_lit-requires-clause-y
gate_lit-requires-clause-y c =
    let l : c.loop-i.i < length c.args.y.now = omega arith in
    clause_below_get _ _ _ _ (clause_below_more _ _ _ c.loop-i.invariant.extends.grows c.requires.y) l

pub loop-i-preserved : goal.loop-i-preserved
loop-i-preserved c = record {
  extends = extends_trans c.loop-i.invariant.extends c.in_ok-bit.ensures.extends;
  so_far = gates_more c.loop-i.b c.gate_lit.new.b c.args.gate c.args.x.now c.args.y.now c.loop-i.bits _ c.in_ok-bit.bit _ c.loop-i.i
      c.loop-i.invariant.so_far c.in_ok-bit.ensures.extends c.in_ok-bit.ensures.made c.in_ok-push.ensures.ok c.loop-i-test.true c.requires.same;
}

pub returns-clause-extends : goal.returns-clause-extends
returns-clause-extends c = c.loop-i.invariant.extends

pub returns-clause-made : goal.returns-clause-made
returns-clause-made c =
    let e : c.loop-i.i ≡ length c.args.x.now = omega arith in
    gates_all c.loop-i.b c.args.gate c.args.x.now c.args.y.now c.loop-i.bits c.loop-i.i e c.requires.same c.loop-i.invariant.so_far
