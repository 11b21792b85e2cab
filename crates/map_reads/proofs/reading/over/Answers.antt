use Rattle.std.proofs.lemmas.Result.{IfOk-weaker}
use Rattle.map_reads.proofs.Drafting.{sort_later}
use Rattle.map_reads.proofs.AtKeys.{over_value}
use Rattle.map_reads.proofs.reading.over.Goals as goal

pub returns : goal.returns
returns c =
    let a = c.args.draft.now in
    let b = c.equal.new.self in
    let put = c.args.put in
    IfOk-weaker c.choose.result _ _
    (λ p is t u draft t_scalar u_scalar put_sort key_sort word_sort below_sort.
    let same = c.in_ok-same.ensures u draft u_scalar put_sort key_sort in
    let word_later = sort_later a b draft same.grows put.word t word_sort in
    let below_later = sort_later a b draft same.grows c.args.below t below_sort in
    over_value a b c.choose.new.self c.in_ok-same.same p put.key c.args.key put.word c.args.below t u draft word_sort below_sort same (is t same.draft t_scalar same.sort word_later below_later))
    c.choose.ensures
