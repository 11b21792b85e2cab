use Rattle.std.proofs.Common.{arith}
use Rattle.map_reads.proofs.Placed.{placed_more}
use Rattle.map_reads.proofs.walking.places_of.Goals as goal

pub loop-node-preserved : goal.loop-node-preserved
loop-node-preserved g c =
    placed_more (g.D.Domain.look c.args.d.now) c.args.draft.now c.loop-node.draft c.place_of.new.draft c.args.nodes.now c.loop-node.found c.push.new.self c.loop-node.node-index c.in_ok-place_of.field-0 c.node-item.result (omega (arith, c.loop-node-test.true)) c.node-item.is
    c.loop-node.invariant c.in_ok-place_of.ensures c.in_ok-push.ensures.ok
