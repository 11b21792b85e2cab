use Rattle.verdict.proofs.Runs.{leaf_shown}
use Rattle.verdict.proofs.examining.leaf_failure.Goals as goal

pub returns : goal.returns
returns g c =
    record {
      witness = λ n s. c.in_ok-shown.ensures.witness n (leaf_shown c.args.problem.now n c.args.place c.args.point.now c.args.found.now c.leaf_rules-rules.result.now c.leaf_rules-rules.ensures s);
    }
