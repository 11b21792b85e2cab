use Rattle.sort_term.proofs.Judging.{AreJudged}
use Rattle.ground_judge.proofs.verdict.judge.Given as goal

-- what is known of the points before this one
abbrev pub invariant-loop-place : goal.invariant-loop-place
invariant-loop-place l = AreJudged l.problem l.steps l.place l.unmatched l.refined
