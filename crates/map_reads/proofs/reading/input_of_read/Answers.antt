use Rattle.std.proofs.lemmas.Result.{IfOk-weaker}
use Rattle.map_reads.proofs.AtKeys.{new_read}
use Rattle.map_reads.proofs.reading.input_of_read.Goals as goal

pub returns-in-None : goal.returns-in-None
returns-in-None c =
    let old = c.args.draft.now in
    IfOk-weaker c.new_read.result _ _ (λ word is k draft sort key. new_read old c.new_read.new.draft c.args.variable c.args.key k c.args.width word draft is sort key) c.new_read.ensures
