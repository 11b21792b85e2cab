use Rattle.std.proofs.Common.{◌<◌, ◌≡◌, length, arith}
use Rattle.bit_gates.proofs.RangeLemmas.{clause_below_more, clause_below_get}
use Rattle.bit_gates.proofs.ExtendLemmas.{extends_refl, extends_trans}
use Rattle.bit_gates.proofs.PushLemmas.{equal_none, equal_more, equal_all}
use Rattle.bit_gates.proofs.comparison.equal.Goals as goal

pub loop-i-init : goal.loop-i-init
loop-i-init c = record {
  extends = extends_refl _ _;
  so_far = equal_none c.args.b.now c.args.x.now c.args.y.now _ c.constant-all.ensures;
}

pub xor-requires-clause-x : goal.xor-requires-clause-x
xor-requires-clause-x c =
    clause_below_get _ _ _ _ (clause_below_more _ _ _ c.loop-i.invariant.extends.grows c.requires.x) c.loop-i-test.true

pub xor-requires-clause-y : goal.xor-requires-clause-y
xor-requires-clause-y c =
    let l : c.loop-i.i < length c.args.y.now = omega arith in
    clause_below_get _ _ _ _ (clause_below_more _ _ _ c.loop-i.invariant.extends.grows c.requires.y) l

pub loop-i-preserved : goal.loop-i-preserved
loop-i-preserved c = record {
  extends = extends_trans c.loop-i.invariant.extends (extends_trans c.in_ok-differ.ensures.extends c.in_ok-all.ensures.extends);
  so_far = equal_more c.loop-i.b c.xor.new.b c.and.new.b c.args.x.now c.args.y.now c.loop-i.all c.in_ok-differ.differ c.flip.result c.in_ok-all.all _ c.loop-i.i
      c.loop-i.invariant.so_far c.in_ok-differ.ensures.extends c.in_ok-differ.ensures.made c.flip.ensures c.in_ok-all.ensures.extends c.in_ok-all.ensures.made c.loop-i-test.true c.requires.same;
}

pub returns-clause-extends : goal.returns-clause-extends
returns-clause-extends c = c.loop-i.invariant.extends

pub returns-clause-made : goal.returns-clause-made
returns-clause-made c =
    let e : c.loop-i.i ≡ length c.args.x.now = omega arith in
    equal_all c.loop-i.b c.args.x.now c.args.y.now c.loop-i.all c.loop-i.i e c.requires.same c.loop-i.invariant.so_far
