use Rattle.std.proofs.Common.{◌≡◌, length, arith}
use Rattle.map_reads.proofs.Begun.{inputs_more, begun}
use Rattle.map_reads.proofs.draft.Draft.new.Goals as goal

pub loop-sort-preserved : goal.loop-sort-preserved
loop-sort-preserved c =
    inputs_more c.args.sorts.now c.loop-sort.sort-index _ c.loop-sort.scalars c.push.new.self c.loop-sort.widths c.push-in-loop-sort.new.self c.len.result c.input_width.result
    c.loop-sort.invariant c.loop-sort-test.true c.in_ok-push.ensures.ok c.in_ok-push-2.ensures.ok c.len.ensures c.input_width.ensures

pub returns : goal.returns
returns c =
    let all : c.loop-sort.sort-index ≡ length c.args.sorts.now = omega arith in
    begun c.args.sorts.now _ c.loop-sort.sort-index c.requires c.loop-sort.invariant all c.in_ok-from_slice.ensures c.new.ensures c.new-2.ensures
