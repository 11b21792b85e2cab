use Rattle.std.proofs.Common.{◌≡◌, map, slice_index_or, refl, ap, ◌∙◌}
use Rattle.sort_term.specs.Tree.{value}
use Rattle.ground_step.specs.Fit.{plain_trees}
use Rattle.ground_step.specs.Shows.{side_of}
use Rattle.verdict.proofs.Failures.{pair_is, run_is, pair_of}
use Rattle.verdict.proofs.failing.failure.Goals as goal

pub reached-requires-clause-left : goal.reached-requires-clause-left
reached-requires-clause-left c = c.in_ok-left.ensures.states.0

pub reached-requires-clause-right : goal.reached-requires-clause-right
reached-requires-clause-right c = c.in_ok-left.ensures.states.1

pub reached-requires-clause-run : goal.reached-requires-clause-run
reached-requires-clause-run c =
    let q = c.args.problem.now in
    let p = c.index-as_slice-place.result in
    let is : p ≡ slice_index_or q.points.points c.args.place p = rw c.as_slice.ensures at c.index-as_slice-place.is in
    let left_is = c.in_ok-left.ensures.left ∙ ap (λ vs. value (plain_trees vs) p.left) c.as_slice-2.ensures in
    let right_is = c.in_ok-left.ensures.right ∙ ap (λ vs. value (plain_trees vs) p.right) c.as_slice-2.ensures in
    (c.requires.run.last, run_is q c.args.place (side_of c.args.side) c.args.values (map (λ r. r.0) c.args.rules.now) c.requires.run p is c.in_ok-left.left.term c.in_ok-left.right.term left_is right_is)

pub returns : goal.returns
returns c =
    let q = c.args.problem.now in
    let p = c.index-as_slice-place.result in
    let rules = map (λ r. r.0) c.args.rules.now in
    let is : p ≡ slice_index_or q.points.points c.args.place p = rw c.as_slice.ensures at c.index-as_slice-place.is in
    let left_is = c.in_ok-left.ensures.left ∙ ap (λ vs. value (plain_trees vs) p.left) c.as_slice-2.ensures in
    let right_is = c.in_ok-left.ensures.right ∙ ap (λ vs. value (plain_trees vs) p.right) c.as_slice-2.ensures in
    let pair = pair_is q c.args.place (side_of c.args.side) c.args.values rules c.requires.run p is c.in_ok-left.left.term c.in_ok-left.right.term left_is right_is in
    record {
      is = record {
        place = refl;
        on = refl;
        under = c.values.view_is;
        by = ap (map (λ r. r.0)) c.in_ok-from_slice.ensures;
        pair = pair_of q c.args.place (side_of c.args.side) c.args.values rules c.requires.run p is c.in_ok-left.left.term c.in_ok-left.right.term pair;
        reached = c.in_ok-reached.ensures.side;
        run = c.in_ok-reached.ensures.run;
      };
    }
