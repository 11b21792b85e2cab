use Rattle.data_value.specs.Nodes.{AllValid}
use Rattle.node_examples.proofs.making.copies.Given as goal

-- the copies so far are nodes
abbrev pub invariant-loop-place : goal.invariant-loop-place
invariant-loop-place g l = AllValid (g.D.Domain.look l.d) l.args.items
