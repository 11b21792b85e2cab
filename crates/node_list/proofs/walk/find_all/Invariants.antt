use Rattle.std.proofs.Common.{reverse, take}
use Rattle.node_list.specs.Walks.{HasFinds}
use Rattle.node_list.proofs.walk.find_all.Given as goal

-- the tasks that find the nodes so far were put before the others
abbrev pub invariant-loop-node : goal.invariant-loop-node
invariant-loop-node g l = HasFinds (g.D.Domain.look l.d) (take l.node-index l.nodes) (reverse l.fn.tasks.items) (reverse l.tasks.items)
