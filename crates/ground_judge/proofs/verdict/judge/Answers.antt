use Rattle.std.proofs.Common.{◌≡◌, ◌≤◌, ◌<◌, length, slice_index_or, Option, Some, None, ap, sym, ◌∙◌, subst, ℕ}
use Rattle.sort_term.proofs.Standing.{get-some}
use Rattle.sort_term.specs.Relation.{IsPoint}
use Rattle.ground_judge.specs.declared.finding.Finding.TheVariants.{Ungrounded, Grounded}
use Rattle.ground_judge.specs.Found.{Finds}
use Rattle.ground_judge.specs.Kinds.{test_of}
use Rattle.sort_term.proofs.Judging.{AreJudged, judged_more, first_ungrounded, all_grounded, all_rights, simulated, all_lefts, is_unmatched, is_refined, is_equivalent}
use Rattle.ground_judge.proofs.verdict.judge.Goals as goal

pub returns-in-Ungrounded-clause-verdict : goal.returns-in-Ungrounded-clause-verdict
returns-in-Ungrounded-clause-verdict c =
    let q = c.args.problem.now in
    let k = c.loop-place.place in
    let p = c.index-points-place.result in
    let at : p ≡ slice_index_or q.points.points k p = rw c.as_slice-points.ensures at c.index-points-place.is in
    let l : k < length q.points.points = rw c.as_slice-points.ensures at c.loop-place-test.true in
    let there : IsPoint q k p = get-some q.points.points k p l ∙ ap Some (sym at) in
    let found : Finds q c.args.steps p (Ungrounded c.in-Ungrounded.test) = subst (Finds q c.args.steps p) c.in-Ungrounded.is c.in_ok-test.ensures in
    first_ungrounded q c.args.steps c.requires.steps k c.loop-place.unmatched c.loop-place.refined (test_of c.in-Ungrounded.test) p there found c.loop-place.invariant

pub loop-place-preserved : goal.loop-place-preserved
loop-place-preserved c =
    let q = c.args.problem.now in
    let k = c.loop-place.place in
    let p = c.index-points-place.result in
    let at : p ≡ slice_index_or q.points.points k p = rw c.as_slice-points.ensures at c.index-points-place.is in
    let l : k < length q.points.points = rw c.as_slice-points.ensures at c.loop-place-test.true in
    let there : IsPoint q k p = get-some q.points.points k p l ∙ ap Some (sym at) in
    let found : Finds q c.args.steps p (Grounded c.in-Grounded.right_fails c.in-Grounded.left_fails) = subst (Finds q c.args.steps p) c.in-Grounded.is c.in_ok-test.ensures in
    rw (c.or-unmatched.ensures, c.then_some.ensures, c.or-refined.ensures, c.then_some-in-Grounded.ensures) (judged_more q c.args.steps k c.loop-place.unmatched c.loop-place.refined c.in-Grounded.right_fails c.in-Grounded.left_fails p there found c.loop-place.invariant)

pub returns-in-Some-default-clause-verdict : goal.returns-in-Some-default-clause-verdict
returns-in-Some-default-clause-verdict c =
    let q = c.args.problem.now in
    let k = c.loop-place.place in
    let all : length q.points.points ≤ k = rw c.as_slice-points.ensures at c.loop-place-test.false in
    let judged : AreJudged q c.args.steps k (Some c.in-Some-default.point) c.loop-place.refined = subst (λ (o : Option ℕ). AreJudged q c.args.steps k o c.loop-place.refined) c.in-Some-default.is-0 c.loop-place.invariant in
    is_unmatched q c.args.steps c.requires.steps k all c.in-Some-default.point c.loop-place.refined judged

pub returns-in-Some-default-clause-grounded : goal.returns-in-Some-default-clause-grounded
returns-in-Some-default-clause-grounded c =
    let q = c.args.problem.now in
    let all : length q.points.points ≤ c.loop-place.place = rw c.as_slice-points.ensures at c.loop-place-test.false in
    λ _. all_grounded q c.args.steps c.requires.steps c.loop-place.place all c.loop-place.unmatched c.loop-place.refined c.loop-place.invariant

pub returns-in-None-Some-clause-verdict : goal.returns-in-None-Some-clause-verdict
returns-in-None-Some-clause-verdict c =
    let q = c.args.problem.now in
    let k = c.loop-place.place in
    let all : length q.points.points ≤ k = rw c.as_slice-points.ensures at c.loop-place-test.false in
    let judged : AreJudged q c.args.steps k None (Some c.in-None-Some.point) = subst (AreJudged q c.args.steps k None) c.in-None-Some.is-1 (subst (λ (o : Option ℕ). AreJudged q c.args.steps k o c.loop-place.refined) c.in-None-Some.is-0 c.loop-place.invariant) in
    is_refined q c.args.steps c.requires.steps k all c.in-None-Some.point judged

pub returns-in-None-Some-clause-grounded : goal.returns-in-None-Some-clause-grounded
returns-in-None-Some-clause-grounded c =
    let q = c.args.problem.now in
    let all : length q.points.points ≤ c.loop-place.place = rw c.as_slice-points.ensures at c.loop-place-test.false in
    λ _. all_grounded q c.args.steps c.requires.steps c.loop-place.place all c.loop-place.unmatched c.loop-place.refined c.loop-place.invariant

pub returns-in-None-Some-clause-simulated : goal.returns-in-None-Some-clause-simulated
returns-in-None-Some-clause-simulated c =
    let q = c.args.problem.now in
    let k = c.loop-place.place in
    let all : length q.points.points ≤ k = rw c.as_slice-points.ensures at c.loop-place-test.false in
    let judged : AreJudged q c.args.steps k None c.loop-place.refined = subst (λ (o : Option ℕ). AreJudged q c.args.steps k o c.loop-place.refined) c.in-None-Some.is-0 c.loop-place.invariant in
    λ _. simulated q c.args.steps c.requires.steps k all c.loop-place.refined judged

pub returns-in-None-None-clause-verdict : goal.returns-in-None-None-clause-verdict
returns-in-None-None-clause-verdict c =
    let q = c.args.problem.now in
    let k = c.loop-place.place in
    let all : length q.points.points ≤ k = rw c.as_slice-points.ensures at c.loop-place-test.false in
    let judged : AreJudged q c.args.steps k None None = subst (AreJudged q c.args.steps k None) c.in-None-None.is-1 (subst (λ (o : Option ℕ). AreJudged q c.args.steps k o c.loop-place.refined) c.in-None-None.is-0 c.loop-place.invariant) in
    is_equivalent q c.args.steps c.requires.steps k all judged

pub returns-in-None-None-clause-grounded : goal.returns-in-None-None-clause-grounded
returns-in-None-None-clause-grounded c =
    let q = c.args.problem.now in
    let all : length q.points.points ≤ c.loop-place.place = rw c.as_slice-points.ensures at c.loop-place-test.false in
    λ _. all_grounded q c.args.steps c.requires.steps c.loop-place.place all c.loop-place.unmatched c.loop-place.refined c.loop-place.invariant

pub returns-in-None-None-clause-simulated : goal.returns-in-None-None-clause-simulated
returns-in-None-None-clause-simulated c =
    let q = c.args.problem.now in
    let k = c.loop-place.place in
    let all : length q.points.points ≤ k = rw c.as_slice-points.ensures at c.loop-place-test.false in
    let judged : AreJudged q c.args.steps k None c.loop-place.refined = subst (λ (o : Option ℕ). AreJudged q c.args.steps k o c.loop-place.refined) c.in-None-None.is-0 c.loop-place.invariant in
    λ _. simulated q c.args.steps c.requires.steps k all c.loop-place.refined judged

pub returns-in-None-None-clause-matched : goal.returns-in-None-None-clause-matched
returns-in-None-None-clause-matched c =
    let q = c.args.problem.now in
    let k = c.loop-place.place in
    let all : length q.points.points ≤ k = rw c.as_slice-points.ensures at c.loop-place-test.false in
    let judged : AreJudged q c.args.steps k None None = subst (AreJudged q c.args.steps k None) c.in-None-None.is-1 (subst (λ (o : Option ℕ). AreJudged q c.args.steps k o c.loop-place.refined) c.in-None-None.is-0 c.loop-place.invariant) in
    λ _. (all_rights q c.args.steps c.requires.steps k all None judged, all_lefts q c.args.steps c.requires.steps k all None judged)
