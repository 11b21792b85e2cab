use Rattle.verdict.specs.Findings.{IsStanding}
use Rattle.verdict.proofs.judging.judge.Given as goal

-- how the relation stands as far as the points before this one say
abbrev pub invariant-loop-place : goal.invariant-loop-place
invariant-loop-place l = IsStanding l.problem l.steps l.place l.standing
