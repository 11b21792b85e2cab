use Rattle.data_value.specs.Known.{AreKnown}
use Rattle.data_value.proofs.Folding.{fold_sorted, fold_scalars, folded}
use Rattle.expr_tree.specs.Trees.{tree_look}
use Rattle.expr_tree.specs.Shows.{tree_laws}
use Rattle.expr_tree.proofs.trees.Trees.folded.Goals as goal

pub apply_scalar-requires-clause-sorted : goal.apply_scalar-requires-clause-sorted
apply_scalar-requires-clause-sorted c =
    let t = c.args.self.now in
    let known : AreKnown (tree_look t.variables.items) c.args.args.now c.as_slice.result.now = rw c.as_slice.ensures.value (rw c.in-Some.is at c.in_ok-scalars.ensures) in
    fold_sorted (tree_look t.variables.items) t.variables.items (tree_laws t.variables.items t.sorts_fit) c.args.op c.args.args.now c.as_slice.result.now c.requires.valid c.requires.sorted known

pub apply_scalar-requires-clause-scalars : goal.apply_scalar-requires-clause-scalars
apply_scalar-requires-clause-scalars c =
    let t = c.args.self.now in
    let known : AreKnown (tree_look t.variables.items) c.args.args.now c.as_slice.result.now = rw c.as_slice.ensures.value (rw c.in-Some.is at c.in_ok-scalars.ensures) in
    fold_scalars (tree_look t.variables.items) t.variables.items (tree_laws t.variables.items t.sorts_fit) c.args.op c.args.args.now c.as_slice.result.now c.requires.valid c.requires.sorted known

pub returns-in-Some : goal.returns-in-Some
returns-in-Some c =
    let t = c.args.self.now in
    let known : AreKnown (tree_look t.variables.items) c.args.args.now c.as_slice.result.now = rw c.as_slice.ensures.value (rw c.in-Some.is at c.in_ok-scalars.ensures) in
    folded (tree_look t.variables.items) t.variables.items (tree_laws t.variables.items t.sorts_fit) c.args.op c.args.args.now c.as_slice.result.now c.requires.valid c.requires.sorted known c.apply_scalar.result c.apply_scalar.ensures
