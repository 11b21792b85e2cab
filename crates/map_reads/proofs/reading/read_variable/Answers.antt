use Rattle.std.proofs.lemmas.Result.{IfOk-weaker}
use Rattle.map_reads.proofs.AtKeys.{read_placed}
use Rattle.map_reads.proofs.reading.read_variable.Goals as goal

pub returns : goal.returns
returns c =
    let old = c.args.draft.now in
    let key = c.args.key in
    IfOk-weaker c.push.result _ _
    (λ p is k meant draft sort key_is.
    read_placed old c.input_of_read.new.draft c.push.new.self p c.args.variable key k c.args.width c.in_ok-word.word meant draft (c.in_ok-word.ensures k draft sort key_is.sort) sort key_is is)
    c.push.ensures
