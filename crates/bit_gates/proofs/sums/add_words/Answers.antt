use Rattle.std.proofs.Common.{◌<◌, ◌≡◌, length, arith}
use Rattle.bit_gates.proofs.RangeLemmas.{clause_below_more, clause_below_get}
use Rattle.bit_gates.proofs.ExtendLemmas.{extends_refl, extends_trans}
use Rattle.bit_gates.proofs.SumLemmas.{sum_none, sum_more, sum_all}
use Rattle.bit_gates.proofs.sums.add_words.Goals as goal

pub loop-i-init : goal.loop-i-init
loop-i-init c = record {
  extends = extends_refl _ _;
  so_far = sum_none c.args.b.now c.args.x.now c.args.y.now _ c.args.c c.new-bits.ensures c.requires.c;
}

pub add_bits-requires-clause-x : goal.add_bits-requires-clause-x
add_bits-requires-clause-x c =
    clause_below_get _ _ _ _ (clause_below_more _ _ _ c.loop-i.invariant.extends.grows c.requires.x) c.loop-i-test.true

pub add_bits-requires-clause-y : goal.add_bits-requires-clause-y
add_bits-requires-clause-y c =
    let l : c.loop-i.i < length c.args.y.now = omega arith in
    clause_below_get _ _ _ _ (clause_below_more _ _ _ c.loop-i.invariant.extends.grows c.requires.y) l

pub add_bits-requires-clause-c : goal.add_bits-requires-clause-c
add_bits-requires-clause-c c = c.loop-i.invariant.so_far.high

pub loop-i-preserved : goal.loop-i-preserved
loop-i-preserved c = record {
  extends = extends_trans c.loop-i.invariant.extends c.in_ok-digit.ensures.extends;
  so_far = rw c.in_ok-push.ensures.ok
      (sum_more c.loop-i.b c.add_bits.new.b c.args.x.now c.args.y.now c.loop-i.bits c.args.c c.loop-i.carry c.in_ok-digit.digit.low c.in_ok-digit.digit.high _ c.loop-i.i
      c.loop-i.invariant.so_far c.in_ok-digit.ensures.extends c.loop-i-test.true c.requires.same c.in_ok-digit.ensures.made);
}

pub returns-clause-extends : goal.returns-clause-extends
returns-clause-extends c = c.loop-i.invariant.extends

pub returns-clause-made : goal.returns-clause-made
returns-clause-made c =
    let e : c.loop-i.i ≡ length c.args.x.now = omega arith in
    sum_all c.loop-i.b c.args.x.now c.args.y.now c.loop-i.bits c.args.c c.loop-i.carry c.loop-i.i e c.requires.same c.loop-i.invariant.so_far
