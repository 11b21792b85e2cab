use Rattle.std.proofs.Common.{All, sym, subst}
use Rattle.symbolic_examples.specs.Ends.{LeadsToNodes}
use Rattle.symbolic_examples.proofs.StartLemmas.{branches_at_nodes}
use Rattle.symbolic_examples.proofs.stepping.branched.Goals as goal

pub led_to-requires-clause-branches : goal.led_to-requires-clause-branches
led_to-requires-clause-branches g c = subst (All (LeadsToNodes (g.D.Domain.look c.branches.new.d))) (sym c.as_slice.ensures) (branches_at_nodes c.args.semantics.now (g.D.Domain.look c.branches.new.d) c.in_ok-found.found c.in_ok-found.ensures.branches.each)
