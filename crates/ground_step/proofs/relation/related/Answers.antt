use Rattle.std.proofs.Common.{arith, subst}
use Rattle.ground_step.specs.Fit.{RelationIs}
use Rattle.ground_step.proofs.Pairs.{none_more, none_at_all}
use Rattle.ground_step.proofs.relation.related.Goals as goal

pub returns-in-Some : goal.returns-in-Some
returns-in-Some c =
    let told : RelationIs c.args.problem.now c.loop-place.place c.args.left.now.term c.args.right.now.term c.in_ok-values.field-0 = rw (c.term.ensures, c.term-in-loop-place.ensures) at c.in_ok-values.ensures in
    record { point = told.point; there = told.there; fits = told.fits c.in-Some.values c.in-Some.is; first = c.loop-place.invariant.none }

pub loop-place-preserved : goal.loop-place-preserved
loop-place-preserved c =
    let told : RelationIs c.args.problem.now c.loop-place.place c.args.left.now.term c.args.right.now.term c.in_ok-values.field-0 = rw (c.term.ensures, c.term-in-loop-place.ensures) at c.in_ok-values.ensures in
    none_more c.args.problem.now c.args.left.now.term c.args.right.now.term c.loop-place.place c.loop-place.invariant (subst (RelationIs c.args.problem.now c.loop-place.place c.args.left.now.term c.args.right.now.term) c.in_default.is told)

pub returns : goal.returns
returns c =
    let n = c.len-place-end.ensures in
    none_at_all c.args.problem.now c.args.left.now.term c.args.right.now.term c.loop-place.place (omega arith) c.loop-place.invariant
