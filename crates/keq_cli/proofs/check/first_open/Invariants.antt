use Rattle.std.proofs.Common.{All, take}
use Rattle.ground_judge.specs.Ground.{IsGroundPoint}
use Rattle.keq_cli.proofs.check.first_open.Given as goal

-- the points so far are ground
abbrev pub invariant-loop-k : goal.invariant-loop-k
invariant-loop-k l = All IsGroundPoint (take l.k l.points)
