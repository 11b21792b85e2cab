use Rattle.std.proofs.Common.{◌≡◌, map, take}
use Rattle.unify.proofs.matchings.copy_nodes.Given as goal

-- the copies so far are seen as the nodes so far
abbrev pub invariant-loop-node : goal.invariant-loop-node
invariant-loop-node g l = map (g.D.Domain.look l.d) l.copies ≡ map (g.D.Domain.look l.d) (take l.node-index l.nodes)
