use Rattle.std.proofs.Common.{◌≡◌, map, None, Some}
use Rattle.ground_step.specs.Reach.{LeadsTo}
use Rattle.verdict.proofs.failing.last_state.Goals as goal

pub unreachable-requires : goal.unreachable-requires
unreachable-requires g c =
    let told : LeadsTo c.args.semantics.now c.args.program.now c.args.start.now.term (map (λ r. r.0) c.args.rules.now) None = rw c.in-None.is at c.in_ok-last.ensures in
    let e : None ≡ Some c.requires.run.0 = told.only c.requires.run.0 c.requires.run.1 in
    cc
