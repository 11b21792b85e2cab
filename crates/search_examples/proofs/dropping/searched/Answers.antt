use Rattle.symbolic_examples.proofs.StartLemmas.{leaves_at_nodes}
use Rattle.search_examples.proofs.dropping.searched.Goals as goal

pub told_of_all-requires-clause-met : goal.told_of_all-requires-clause-met
told_of_all-requires-clause-met g c = leaves_at_nodes c.args.system.now.semantics (g.D.Domain.look c.search_dropping.new.d) c.in_ok-reach.reach.met c.in_ok-reach.ensures.met.among.each

pub told_of_all-requires-clause-long : goal.told_of_all-requires-clause-long
told_of_all-requires-clause-long g c = leaves_at_nodes c.args.system.now.semantics (g.D.Domain.look c.search_dropping.new.d) c.in_ok-reach.reach.long c.in_ok-reach.ensures.long.among.each

pub told_of_all-requires-clause-halted : goal.told_of_all-requires-clause-halted
told_of_all-requires-clause-halted g c = leaves_at_nodes c.args.system.now.semantics (g.D.Domain.look c.search_dropping.new.d) c.in_ok-reach.reach.halted c.in_ok-reach.ensures.halted.among.each

pub told_of_all-requires-clause-dropped : goal.told_of_all-requires-clause-dropped
told_of_all-requires-clause-dropped g c = leaves_at_nodes c.args.system.now.semantics (g.D.Domain.look c.search_dropping.new.d) c.in_ok-reach.reach.dropped c.in_ok-reach.ensures.dropped.each
