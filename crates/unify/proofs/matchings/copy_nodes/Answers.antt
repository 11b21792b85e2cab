use Rattle.unify.proofs.Lists.{mapped_more}
use Rattle.unify.proofs.matchings.copy_nodes.Goals as goal

pub loop-node-preserved : goal.loop-node-preserved
loop-node-preserved g c =
    let look = g.D.Domain.look c.args.d.now in
    mapped_more look look _ _ _ _ _ _ c.loop-node-test.true c.node-item.is c.in_ok-push.ensures.ok c.loop-node.invariant c.in_ok-copy.ensures
