use Rattle.std.proofs.Common.{[], ◌∷◌}
use Rattle.data_value.specs.Nodes.{AllValid}
use Rattle.expr_pool.specs.Keys.{pool_look}
use Rattle.node_examples.proofs.chain.chain.Given as goal

-- the last two nodes are nodes of the pool
abbrev pub invariant-loop-turn : goal.invariant-loop-turn
invariant-loop-turn l = AllValid (pool_look l.pool.nodes.keys) (l.last ∷ l.before ∷ [])
