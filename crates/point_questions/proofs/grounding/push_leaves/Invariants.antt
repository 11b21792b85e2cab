use Rattle.std.proofs.Common.{◌≡◌, ◌++◌, take}
use Rattle.path_condition.specs.Leaves.{seen_leaves}
use Rattle.point_questions.specs.Questions.{seen_questions}
use Rattle.point_questions.specs.Lists.{numbered, run_flaw}
use Rattle.point_questions.proofs.grounding.push_leaves.Given as goal

-- the questions so far are those that were there and one for each leaf so far
abbrev pub invariant-loop-place : goal.invariant-loop-place
invariant-loop-place g l =
    let look = g.D.Domain.look l.d in
    seen_questions look l.questions ≡ seen_questions look l.fn.questions ++ numbered (run_flaw l.escape l.side) 0 (seen_leaves look (take l.place l.leaves))
