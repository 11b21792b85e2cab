use Rattle.std.proofs.Common.{rules, All, Some, take, get_or, sym, ap, ◌∙◌, subst}
use Rattle.std.proofs.lemmas.List.{take_more, take_all}
use Rattle.std.proofs.lemmas.List.Elements.{All-push}
use Rattle.std.proofs.lemmas.Option.{slice_get-get_or}
use Rattle.ground_judge.specs.Ground.{IsGroundPoint}
use Rattle.keq_cli.proofs.check.first_open.Goals as goal

pub returns-then-not-is_ground-clause-some : goal.returns-then-not-is_ground-clause-some
returns-then-not-is_ground-clause-some c =
    let p = c.index-points-k.result in (
      p,
      record {
        there = slice_get-get_or c.args.points.now c.loop-k.k p c.loop-k-test.true ∙ ap Some (sym c.index-points-k.is);
        not_ground = λ ground. let told = c.is_ground.ensures.1 ground in absurd (search rules);
        ground_before = c.loop-k.invariant;
      },
    )

pub loop-k-preserved : goal.loop-k-preserved
loop-k-preserved c =
    let p = c.index-points-k.result in
    let ground : IsGroundPoint p = c.is_ground.ensures.0 (search rules) in
    subst (All IsGroundPoint) (sym (take_more c.args.points.now c.loop-k.k p c.loop-k-test.true))
    (All-push IsGroundPoint (take c.loop-k.k c.args.points.now) (get_or c.args.points.now c.loop-k.k p) c.loop-k.invariant (subst IsGroundPoint c.index-points-k.is ground))

pub returns-clause-none : goal.returns-clause-none
returns-clause-none c = λ _. subst (All IsGroundPoint) (take_all c.loop-k.k c.args.points.now c.loop-k-test.false) c.loop-k.invariant
