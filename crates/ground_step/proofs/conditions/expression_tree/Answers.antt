use Rattle.ground_step.proofs.Evaluated.{ready_valid, ready_sorted}
use Rattle.ground_step.proofs.conditions.expression_tree.Goals as goal

pub evaluate-requires-clause-valid : goal.evaluate-requires-clause-valid
evaluate-requires-clause-valid g c = ready_valid c.args.semantics.now.cons c.args.binds.now c.args.expression.now c.requires

pub evaluate-requires-clause-sorted : goal.evaluate-requires-clause-sorted
evaluate-requires-clause-sorted g c = ready_sorted c.args.semantics.now.cons c.args.binds.now c.args.expression.now c.requires

pub returns : goal.returns
returns g c = c.in_ok-evaluate.ensures.value
