use Rattle.std.proofs.lemmas.Result.{IfOk-weaker}
use Rattle.ground_judge.proofs.finding.examine.Goals as goal

pub returns : goal.returns
returns c = IfOk-weaker c.examine_pair-found.result _ _ (λ found is. is c.args.point.now c.in_ok-left.ensures.only) c.examine_pair-found.ensures
