use Rattle.ground_step.proofs.Bound.{restricts_new}
use Rattle.ground_step.proofs.binds.bind_new.Goals as goal

pub returns : goal.returns
returns c = rw (c.set.ensures, c.in_ok-copy.ensures) (restricts_new c.args.binds.now c.args.variable c.args.tree.now c.requires)
