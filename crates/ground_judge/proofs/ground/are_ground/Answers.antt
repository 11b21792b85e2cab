use Rattle.std.proofs.Common.{arith, rules, ◌≡◌, take, All, subst}
use Rattle.std.proofs.lemmas.List.{take_all}
use Rattle.ground_step.proofs.Lists.{all_more}
use Rattle.ground_judge.specs.Ground.{IsGroundPoint}
use Rattle.ground_judge.proofs.ground.are_ground.Goals as goal

pub loop-point-preserved : goal.loop-point-preserved
loop-point-preserved c =
    (all_more IsGroundPoint c.args.points.now c.loop-point.point-index c.point-item.result c.loop-point-test.true c.point-item.is).1 (c.loop-point.invariant, c.is_ground.ensures.0 c.if-not-is_ground.false)

pub returns : goal.returns
returns c =
    let all : take c.loop-point.point-index c.args.points.now ≡ c.args.points.now = take_all c.loop-point.point-index c.args.points.now (omega arith) in
    (λ _. subst (All IsGroundPoint) all c.loop-point.invariant, λ _. search rules)
