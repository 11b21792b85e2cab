use Rattle.std.proofs.Common.{map, sym, ap, ◌∙◌}
use Rattle.sort_term.specs.Sorted.{tree_sort}
use Rattle.ground_step.specs.Fit.{plain_trees, some_plain}
use Rattle.ground_step.proofs.Evaluated.{value_given}
use Rattle.ground_step.proofs.Pairs.{agrees_self, ready_under, value_sorted_under}
use Rattle.ground_step.proofs.replaying.states_under.Goals as goal

pub expression_tree-requires : goal.expression_tree-requires
expression_tree-requires c = rw c.in_ok-binds.ensures (ready_under c.args.problem.now.left.cons c.args.point.now.vars c.args.values.now c.args.point.now.left _ c.requires.values c.requires.point.left_term.is)

pub expression_tree-requires-2 : goal.expression_tree-requires-2
expression_tree-requires-2 c = rw c.in_ok-binds.ensures (ready_under c.args.problem.now.right.cons c.args.point.now.vars c.args.values.now c.args.point.now.right _ c.requires.values c.requires.point.right_term.is)

pub returns-clause-left : goal.returns-clause-left
returns-clause-left c =
    let values = c.args.values.now in
    let given = rw c.in_ok-binds.ensures at c.in_ok-left.ensures in
    c.new.ensures ∙ sym (value_given c.args.problem.now.left.cons (map some_plain values) c.args.point.now.left _ given (plain_trees values) (agrees_self values))

pub returns-clause-right : goal.returns-clause-right
returns-clause-right c =
    let values = c.args.values.now in
    let given = rw c.in_ok-binds.ensures at c.in_ok-right.ensures in
    c.new-2.ensures ∙ sym (value_given c.args.problem.now.right.cons (map some_plain values) c.args.point.now.right _ given (plain_trees values) (agrees_self values))

pub returns-clause-states : goal.returns-clause-states
returns-clause-states c =
    let values = c.args.values.now in
    let vars = c.args.point.now.vars in
    let left_cons = c.args.problem.now.left.cons in
    let right_cons = c.args.problem.now.right.cons in
    let l = rw c.in_ok-binds.ensures at c.in_ok-left.ensures in
    let r = rw c.in_ok-binds.ensures at c.in_ok-right.ensures in
    let left_is = c.new.ensures ∙ sym (value_given left_cons (map some_plain values) c.args.point.now.left _ l (plain_trees values) (agrees_self values)) in
    let right_is = c.new-2.ensures ∙ sym (value_given right_cons (map some_plain values) c.args.point.now.right _ r (plain_trees values) (agrees_self values)) in
    (record { is = ap (tree_sort left_cons) left_is ∙ value_sorted_under left_cons vars values c.args.point.now.left _ c.requires.values c.requires.point.left_term.is }, record { is = ap (tree_sort right_cons) right_is ∙ value_sorted_under right_cons vars values c.args.point.now.right _ c.requires.values c.requires.point.right_term.is })
