use Rattle.report_text.specs.States.{tree_text}
use Rattle.report_text.proofs.Written.{behind_more}
use Rattle.report_text.proofs.states.+tree.Goals as goal

pub write_trees-loop-tree-preserved : goal.write_trees-loop-tree-preserved
write_trees-loop-tree-preserved t c = behind_more (tree_text c.args.cons.now) c.args.trees.now c.loop-tree.tree-index c.tree-item.result c.loop-tree-test.true c.tree-item.is _ _ _ _ c.loop-tree.invariant c.in_ok-push.ensures.items c.in_ok-write_tree.ensures
