use Rattle.std.proofs.Common.{◌∙◌}
use Rattle.symbolic_examples.proofs.ground.steps_of.Goals as goal

pub step-requires-clause-config : goal.step-requires-clause-config
step-requires-clause-config c = record { is = c.ground_terms_are_trees.ensures.sorts c.args.machine.now.semantics.cons _ ∙ c.args.machine.now.fits.1.is }
