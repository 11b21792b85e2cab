use Rattle.std.proofs.Common.{◌≡◌, [], sym, ◌∙◌}
use Rattle.ground_step.proofs.Bound.{agrees_none}
use Rattle.ground_step.proofs.Evaluated.{value_given}
use Rattle.ground_step.proofs.Pairs.{ready_alone}
use Rattle.ground_step.proofs.relation.point_states.Goals as goal

pub expression_tree-requires : goal.expression_tree-requires
expression_tree-requires c = rw c.new-none.ensures (ready_alone c.args.problem.now.left.cons c.args.point.now.vars c.args.point.now.left _ c.requires.left_term.is (c.is_empty.ensures.0 c.if-not-is_empty.false))

pub expression_tree-requires-2 : goal.expression_tree-requires-2
expression_tree-requires-2 c = rw c.new-none.ensures (ready_alone c.args.problem.now.right.cons c.args.point.now.vars c.args.point.now.right _ c.requires.right_term.is (c.is_empty.ensures.0 c.if-not-is_empty.false))

pub returns : goal.returns
returns c =
    let none : c.new-none.result ≡ [] = c.new-none.ensures in
    let l = rw none at c.in_ok-left.ensures in
    let r = rw none at c.in_ok-right.ensures in
    (c.is_empty.ensures.0 c.if-not-is_empty.false, c.new.ensures ∙ sym (value_given c.args.problem.now.left.cons [] c.args.point.now.left _ l [] (agrees_none 0 [])), c.new-2.ensures ∙ sym (value_given c.args.problem.now.right.cons [] c.args.point.now.right _ r [] (agrees_none 0 [])))
