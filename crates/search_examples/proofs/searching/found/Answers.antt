use Rattle.symbolic_examples.proofs.StartLemmas.{leaves_at_nodes}
use Rattle.search_examples.proofs.searching.found.Goals as goal

pub told-requires-clause-met : goal.told-requires-clause-met
told-requires-clause-met g c = leaves_at_nodes c.args.system.now.semantics (g.D.Domain.look c.search.new.d) c.in_ok-reach.reach.met c.in_ok-reach.ensures.met.each

pub told-requires-clause-long : goal.told-requires-clause-long
told-requires-clause-long g c = leaves_at_nodes c.args.system.now.semantics (g.D.Domain.look c.search.new.d) c.in_ok-reach.reach.long c.in_ok-reach.ensures.long.each

pub told-requires-clause-halted : goal.told-requires-clause-halted
told-requires-clause-halted g c = leaves_at_nodes c.args.system.now.semantics (g.D.Domain.look c.search.new.d) c.in_ok-reach.reach.halted c.in_ok-reach.ensures.halted.each
