use Rattle.std.proofs.Common.{◌∙◌}
use Rattle.machine_examples.proofs.matching.branches_of.Goals as goal

pub branches-requires-clause-config : goal.branches-requires-clause-config
branches-requires-clause-config c = record { is = c.ground_terms_are_trees.ensures.sorts c.args.machine.now.semantics.cons _ ∙ c.args.machine.now.fits.1.is }
