use Rattle.ground_step.proofs.Evaluated.{equality_told}
use Rattle.ground_step.proofs.relation.gives.Goals as goal

pub returns : goal.returns
returns g c = equality_told c.args.semantics.now.cons c.args.binds.now c.args.term.now _ _ _ c.in_ok-found.ensures c.same_term.ensures
