use Rattle.std.proofs.Common.{take}
use Rattle.ground_step.specs.Reach.{runs_of}
use Rattle.ground_judge.specs.Found.{AreLeftsMatched}
use Rattle.ground_judge.proofs.left_partners.are_lefts_matched.Given as goal

abbrev pub invariant-loop-left : goal.invariant-loop-left
invariant-loop-left l = AreLeftsMatched l.problem (runs_of (take l.left-index l.lefts)) (runs_of l.rights)
