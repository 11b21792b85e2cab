use Rattle.std.proofs.Common.{◌≡◌, take}
use Rattle.data_value.specs.Nodes.{sorts_of}
use Rattle.formula_text.proofs.nodes.sorts_of.Given as goal

-- the sorts of the nodes so far
abbrev pub invariant-loop-node : goal.invariant-loop-node
invariant-loop-node g l = l.sorts.items ≡ sorts_of (g.D.Domain.look l.d) (take l.node-index l.nodes)
