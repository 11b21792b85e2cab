use Rattle.std.proofs.Common.{refl, arith}
use Rattle.bit_gates.proofs.LayoutLemmas.{constant_none, constant_more, next_rest}
use Rattle.bit_gates.proofs.layout.constant_word.Goals as goal

pub loop-i-init : goal.loop-i-init
loop-i-init c = record {
  so_far = constant_none c.args.b.now c.args.value c.new-bits.result c.new-bits.ensures;
  rest = omega arith;
}

pub loop-i-preserved : goal.loop-i-preserved
loop-i-preserved c = record {
  so_far = constant_more c.args.b.now c.args.value c.loop-i._i c.loop-i.rest c.loop-i.bits c.push.new.self c.constant.result _ c.loop-i.invariant.so_far c.loop-i.invariant.rest refl c.constant.ensures c.in_ok-push.ensures.ok;
  rest = next_rest c.args.value c.loop-i._i c.loop-i.rest c.loop-i.invariant.rest;
}
