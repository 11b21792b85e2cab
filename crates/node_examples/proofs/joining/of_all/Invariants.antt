use Rattle.std.proofs.Common.{All, map, take}
use Rattle.data_value.specs.Truth.{IsCondition}
use Rattle.node_examples.proofs.joining.of_all.Given as goal

-- the nodes so far are conditions
abbrev pub invariant-loop-node : goal.invariant-loop-node
invariant-loop-node g l = All IsCondition (map (g.D.Domain.look l.d) (take l.node-index l.nodes))
