use Rattle.data_value.specs.Nodes.{AllValid}
use Rattle.node_examples.proofs.making.made.Given as goal

-- the nodes so far are nodes of the domain as it is now
abbrev pub invariant-loop-form : goal.invariant-loop-form
invariant-loop-form g l = AllValid (g.D.Domain.look l.d) l.nodes.items
