use Rattle.std.proofs.Common.{take}
use Rattle.ground_step.specs.Reach.{runs_of}
use Rattle.ground_judge.specs.Found.{AreRightsMatched}
use Rattle.ground_judge.proofs.right_partners.are_rights_matched.Given as goal

abbrev pub invariant-loop-right : goal.invariant-loop-right
invariant-loop-right l = AreRightsMatched l.problem (runs_of l.lefts) (runs_of (take l.right-index l.rights))
