use Rattle.std.proofs.Common.{◌≡◌, ◌++◌, List, ap, ◌∙◌}
use Rattle.point_questions.specs.declared.grounding.Escape.TheVariants as escape
use Rattle.ground_step.specs.declared.verdict.SideName.TheVariants as side
use Rattle.point_questions.specs.Questions.{SeenQuestion, seen_point, seen_questions}
use Rattle.point_questions.specs.Lists.{numbered, run_flaw}
use Rattle.point_questions.proofs.Asking.{runs_asked}
use Rattle.point_questions.proofs.grounding.run_questions.Goals as goal

pub returns : goal.returns
returns g c =
    let look = g.D.Domain.look c.args.d.now in
    let x = seen_point look c.args.point.now in
    let A : List (SeenQuestion _) = numbered (run_flaw escape.Long side.Left) 0 x.left.long in
    let B : List (SeenQuestion _) = numbered (run_flaw escape.Long side.Right) 0 x.right.long in
    let C : List (SeenQuestion _) = numbered (run_flaw escape.Halted side.Left) 0 x.left.halted in
    let D : List (SeenQuestion _) = numbered (run_flaw escape.Halted side.Right) 0 x.right.halted in
    let a : seen_questions look c.push_leaves.new.questions ≡ A = rw (c.as_slice.ensures, c.new-xs.ensures) at c.in_ok-push_leaves.ensures in
    let b : seen_questions look c.push_leaves-2.new.questions ≡ seen_questions look c.push_leaves.new.questions ++ B = rw c.as_slice-2.ensures at c.in_ok-push_leaves-2.ensures in
    let d : seen_questions look c.push_leaves-3.new.questions ≡ seen_questions look c.push_leaves-2.new.questions ++ C = rw c.as_slice-3.ensures at c.in_ok-push_leaves-3.ensures in
    let e : seen_questions look c.push_leaves-4.new.questions ≡ seen_questions look c.push_leaves-3.new.questions ++ D = rw c.as_slice-4.ensures at c.in_ok-push_leaves-4.ensures in
    record {
      asked = λ q.
          runs_asked q (g.D.Domain.variables c.args.d.now) x c.requires.left_long c.requires.right_long c.requires.left_halted c.requires.right_halted
          (seen_questions look c.push_leaves-4.new.questions) (e ∙ ap (λ ys. ys ++ D) (d ∙ ap (λ ys. ys ++ C) (b ∙ ap (λ ys. ys ++ B) a)));
    }
