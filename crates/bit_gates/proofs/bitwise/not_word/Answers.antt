use Rattle.std.proofs.lemmas.Result.{IfOk-weaker}
use Rattle.bit_gates.proofs.LayoutLemmas.{is_opposite}
use Rattle.bit_gates.proofs.bitwise.not_word.Goals as goal

pub returns : goal.returns
returns c = IfOk-weaker c.flip_all.result _ _ (λ v h. is_opposite c.args.b.now c.args.x.now v c.requires h) c.flip_all.ensures
