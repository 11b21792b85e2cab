use Rattle.std.proofs.lemmas.Result.{IfOk-weaker}
use Rattle.bit_gates.proofs.LayoutLemmas.{is_concat}
use Rattle.bit_gates.proofs.layout.concat.Goals as goal

pub returns : goal.returns
returns c = IfOk-weaker c.join.result _ _ (λ v h. is_concat c.args.b.now c.args.high.now c.args.low.now v c.requires.high c.requires.low h) c.join.ensures
