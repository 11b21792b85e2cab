use Rattle.std.proofs.lemmas.Result.{IfOk-weaker}
use Rattle.map_reads.proofs.AtKeys.{fixed_word}
use Rattle.map_reads.proofs.reading.fix.Goals as goal

pub returns : goal.returns
returns c =
    IfOk-weaker c.push.result _ _ (λ p is draft width fits. fixed_word c.args.draft.now c.push.new.self p c.args.width c.args.bits draft width fits is) c.push.ensures
