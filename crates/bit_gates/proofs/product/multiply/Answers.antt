use Rattle.std.proofs.Common.{◌<◌, ◌≡◌, length, arith}
use Rattle.bit_gates.proofs.RangeLemmas.{clause_below_more, clause_below_get}
use Rattle.bit_gates.proofs.ExtendLemmas.{extends_refl, extends_trans}
use Rattle.bit_gates.proofs.ProductLemmas.{product_none, product_more, product_all}
use Rattle.bit_gates.proofs.product.multiply.Goals as goal

pub loop-i-init : goal.loop-i-init
loop-i-init c = record {
  extends = extends_refl _ _;
  so_far = product_none c.args.b.now c.args.x.now c.args.y.now _ c.constant.result c.constant.ensures c.in_ok-sum.ensures;
}

pub add_partial-requires-clause-s : goal.add_partial-requires-clause-s
add_partial-requires-clause-s c =
    let l : c.loop-i.i < length c.args.y.now = omega arith in
    clause_below_get _ _ _ _ (clause_below_more _ _ _ c.loop-i.invariant.extends.grows c.requires.y) l

pub add_partial-requires-clause-x : goal.add_partial-requires-clause-x
add_partial-requires-clause-x c = clause_below_more _ _ _ c.loop-i.invariant.extends.grows c.requires.x

pub loop-i-preserved : goal.loop-i-preserved
loop-i-preserved c =
    let l : c.loop-i.i < length c.args.y.now = omega arith in
    record {
      extends = extends_trans c.loop-i.invariant.extends c.in_ok-sum-2.ensures.extends;
      so_far = product_more c.loop-i.b c.add_partial.new.b c.args.x.now c.args.y.now c.loop-i.sum c.as_slice.result.now _ c.loop-i.i _ c.loop-i.invariant.so_far c.as_slice.ensures c.in_ok-sum-2.ensures.extends c.in_ok-sum-2.ensures.made l;
    }

pub returns-clause-made : goal.returns-clause-made
returns-clause-made c =
    let e : c.loop-i.i ≡ length c.args.y.now = omega arith in
    product_all c.loop-i.b c.args.x.now c.args.y.now _ c.loop-i.i e c.loop-i.invariant.so_far
