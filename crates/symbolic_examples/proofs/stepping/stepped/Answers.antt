use Rattle.symbolic_examples.proofs.StartLemmas.{leaves_at_nodes}
use Rattle.symbolic_examples.proofs.stepping.stepped.Goals as goal

pub told-requires-clause-leaves : goal.told-requires-clause-leaves
told-requires-clause-leaves g c = leaves_at_nodes c.args.semantics.now (g.D.Domain.look c.step.new.d) c.in_ok-next.next.leaves c.in_ok-next.ensures.leaves.each
