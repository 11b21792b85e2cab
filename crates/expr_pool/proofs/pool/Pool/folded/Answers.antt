use Rattle.expr_pool.specs.Keys.{pool_look}
use Rattle.expr_pool.specs.Shows.{pool_laws}
use Rattle.data_value.specs.Known.{AreKnown}
use Rattle.data_value.proofs.Folding.{fold_sorted, fold_scalars, folded}
use Rattle.expr_pool.proofs.pool.Pool.folded.Goals as goal

pub apply_scalar-requires-clause-sorted : goal.apply_scalar-requires-clause-sorted
apply_scalar-requires-clause-sorted c =
    let p = c.args.self.now in
    let known : AreKnown (pool_look p.nodes.keys) c.args.args.now c.as_slice-in-Some.result.now = rw (c.as_slice-in-Some.ensures.value, ← c.as_slice.ensures.keys) (rw c.in-Some.is at c.in_ok-scalars.ensures) in
    fold_sorted (pool_look p.nodes.keys) p.variables.items (pool_laws p.variables.items p.nodes.keys p.sorts_fit p.formed) c.args.op c.args.args.now c.as_slice-in-Some.result.now c.requires.valid c.requires.sorted known

pub apply_scalar-requires-clause-scalars : goal.apply_scalar-requires-clause-scalars
apply_scalar-requires-clause-scalars c =
    let p = c.args.self.now in
    let known : AreKnown (pool_look p.nodes.keys) c.args.args.now c.as_slice-in-Some.result.now = rw (c.as_slice-in-Some.ensures.value, ← c.as_slice.ensures.keys) (rw c.in-Some.is at c.in_ok-scalars.ensures) in
    fold_scalars (pool_look p.nodes.keys) p.variables.items (pool_laws p.variables.items p.nodes.keys p.sorts_fit p.formed) c.args.op c.args.args.now c.as_slice-in-Some.result.now c.requires.valid c.requires.sorted known

pub returns-in-Some : goal.returns-in-Some
returns-in-Some c =
    let p = c.args.self.now in
    let known : AreKnown (pool_look p.nodes.keys) c.args.args.now c.as_slice-in-Some.result.now = rw (c.as_slice-in-Some.ensures.value, ← c.as_slice.ensures.keys) (rw c.in-Some.is at c.in_ok-scalars.ensures) in
    folded (pool_look p.nodes.keys) p.variables.items (pool_laws p.variables.items p.nodes.keys p.sorts_fit p.formed) c.args.op c.args.args.now c.as_slice-in-Some.result.now c.requires.valid c.requires.sorted known c.apply_scalar.result c.apply_scalar.ensures
