use Rattle.std.proofs.Common.{subst}
use Rattle.verdict.specs.Findings.{IsRightMissing}
use Rattle.verdict.proofs.Inside.{both_missing}
use Rattle.verdict.proofs.examining.missed.Goals as goal

pub returns-in_ok-left_missed-in-None : goal.returns-in_ok-left_missed-in-None
returns-in_ok-left_missed-in-None g c =
    let q = c.args.problem.now in
    both_missing q c.args.steps c.args.place c.in_ok-left_missed-in-None.field-0 (subst (IsRightMissing q c.args.steps c.args.place) c.in-None.is c.in_ok-failure.ensures.missing) c.in_ok-left_missed-in-None.ensures
