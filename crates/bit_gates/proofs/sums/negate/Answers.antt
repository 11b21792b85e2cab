use Rattle.std.proofs.lemmas.Result.{IfOk-weaker}
use Rattle.bit_gates.proofs.LayoutLemmas.{has_copies}
use Rattle.bit_gates.proofs.SumLemmas.{is_negated}
use Rattle.bit_gates.proofs.sums.negate.Goals as goal

pub returns-clause-made : goal.returns-clause-made
returns-clause-made c = IfOk-weaker c.subtract.result _ _
    (λ v h. is_negated c.args.b.now c.subtract.new.b c.args.x.now c.in_ok-zeros.zeros c.as_slice.result.now v c.constant.result c.constant.ensures c.in_ok-zeros.ensures c.as_slice.ensures h)
    c.subtract.ensures.made

pub subtract-requires-clause-x : goal.subtract-requires-clause-x
subtract-requires-clause-x c = has_copies c.args.b.now _ _ c.constant.result _ _ c.constant.ensures c.in_ok-zeros.ensures c.as_slice.ensures
