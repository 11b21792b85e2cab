use Rattle.std.proofs.Common.{All, take}
use Rattle.ground_judge.specs.Ground.{IsGroundPoint}
use Rattle.ground_judge.proofs.ground.are_ground.Given as goal

abbrev pub invariant-loop-point : goal.invariant-loop-point
invariant-loop-point l = All IsGroundPoint (take l.point-index l.points)
