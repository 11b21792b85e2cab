use Rattle.std.proofs.Common.{All, take}
use Rattle.sort_term.specs.Relation.{Related}
use Rattle.ground_step.specs.Reach.{end_of, runs_of}
use Rattle.ground_judge.proofs.left_partners.has_right.Given as goal

abbrev pub invariant-loop-right : goal.invariant-loop-right
invariant-loop-right l = All (λ x. ¬ Related l.problem l.left.term (end_of x)) (runs_of (take l.right-index l.rights))
