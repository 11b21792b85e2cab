use Rattle.std.proofs.Common.{[], ◌∷◌, ℕ, IsTrue}
use Rattle.std.proofs.lemmas.List.Elements.{All-nil, All-cons, All-head}
use Rattle.data_value.proofs.Grown.{valid-kept}
use Rattle.expr_pool.specs.Keys.{pool_look}
use Rattle.node_examples.proofs.chain.chain.Goals as goal

pub loop-turn-preserved : goal.loop-turn-preserved
loop-turn-preserved c =
    let last = c.loop-turn.last in
    let before = c.loop-turn.before in
    let now = pool_look c.applied.new.d.nodes.keys in
    let kept = valid-kept (pool_look c.loop-turn.pool.nodes.keys) now c.in_ok-sum.ensures.extends (last ∷ before ∷ []) c.loop-turn.invariant in
    let valid = λ (n : ℕ). IsTrue (now n).valid in
    All-cons valid c.in_ok-sum.sum (last ∷ []) c.in_ok-sum.ensures.valid (All-cons valid last [] (All-head valid last (before ∷ []) kept) (All-nil valid))

pub returns : goal.returns
returns c = All-head (λ n. IsTrue (pool_look c.loop-turn.pool.nodes.keys n).valid) c.loop-turn.last (c.loop-turn.before ∷ []) c.loop-turn.invariant
