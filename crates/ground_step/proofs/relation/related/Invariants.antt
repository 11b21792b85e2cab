use Rattle.ground_step.proofs.Pairs.{NoneRelatesBefore}
use Rattle.ground_step.proofs.relation.related.Given as goal

abbrev pub invariant-loop-place : goal.invariant-loop-place
invariant-loop-place l = NoneRelatesBefore l.problem l.left.term l.right.term l.place
