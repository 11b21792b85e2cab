use Rattle.std.proofs.Common.{All, take}
use Rattle.sort_term.specs.Relation.{Related}
use Rattle.ground_step.specs.Reach.{end_of, runs_of}
use Rattle.ground_judge.proofs.right_partners.has_left.Given as goal

abbrev pub invariant-loop-left : goal.invariant-loop-left
invariant-loop-left l = All (λ x. ¬ Related l.problem (end_of x) l.right.term) (runs_of (take l.left-index l.lefts))
