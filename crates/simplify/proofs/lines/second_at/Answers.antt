use Rattle.std.proofs.Common.{arith, sym}
use Rattle.std.proofs.lemmas.Option.{slice_get_within}
use Rattle.simplify.specs.Pairs.{IsPair}
use Rattle.simplify.proofs.PairLemmas.{pair_at, item_at, unpaired_more}
use Rattle.simplify.proofs.lines.second_at.Goals as goal

pub is_kept_under-requires : goal.is_kept_under-requires
is_kept_under-requires g c =
    let look = g.D.Domain.look c.args.d.now in
    let pairs = c.args.pairs.now in
    (pair_at look IsPair pairs c.loop-pair.pair-index c.pair-item.result (item_at look pairs c.loop-pair.pair-index c.pair-item.result c.loop-pair-test.true c.pair-item.is) c.requires).first

pub copy-requires : goal.copy-requires
copy-requires g c =
    let look = g.D.Domain.look c.args.d.now in
    let pairs = c.args.pairs.now in
    (pair_at look IsPair pairs c.loop-pair.pair-index c.pair-item.result (item_at look pairs c.loop-pair.pair-index c.pair-item.result c.loop-pair-test.true c.pair-item.is) c.requires).second

pub returns-then-is_kept_under : goal.returns-then-is_kept_under
returns-then-is_kept_under g c =
    let look = g.D.Domain.look c.args.d.now in
    let pairs = c.args.pairs.now in
    (c.loop-pair.pair-index, c.pair-item.result, item_at look pairs c.loop-pair.pair-index c.pair-item.result c.loop-pair-test.true c.pair-item.is, c.is_kept_under.ensures.0 c.if-is_kept_under.true, sym c.in_ok-copy.ensures)

pub loop-pair-preserved : goal.loop-pair-preserved
loop-pair-preserved g c =
    let look = g.D.Domain.look c.args.d.now in
    let pairs = c.args.pairs.now in
    unpaired_more look pairs c.loop-pair.pair-index c.args.id c.pair-item.result (item_at look pairs c.loop-pair.pair-index c.pair-item.result c.loop-pair-test.true c.pair-item.is)
    (λ own. let h = c.is_kept_under.ensures.1 own in let no = c.if-is_kept_under.false in cc) c.loop-pair.invariant

pub returns : goal.returns
returns g c = λ k p at own. c.loop-pair.invariant k p (let lt = slice_get_within c.args.pairs.now k p at in let all = c.loop-pair-test.false in omega arith) at own
