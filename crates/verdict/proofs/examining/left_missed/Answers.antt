use Rattle.std.proofs.Common.{subst}
use Rattle.point_questions.specs.Questions.{seen_point, seen_questions, IsLeftFailure}
use Rattle.verdict.specs.Decided.{AreNeverTrue, IsFoundFirst, IsFirstTrue}
use Rattle.verdict.proofs.Found.{conditions}
use Rattle.verdict.proofs.Leaves.{found_of, left_leaf, left_none, left_kind}
use Rattle.verdict.proofs.examining.left_missed.Goals as goal

pub first_true-requires : goal.first_true-requires
first_true-requires g c =
    let look = g.D.Domain.look in
    let sorts = g.D.Domain.variables in
    let first = look c.args.d.now in
    let y = c.args.point.now in
    let p = c.requires.grounded in
    let ys = seen_questions (look c.left_failures.new.d) c.in_ok-questions.questions in
    rw c.as_slice.ensures (conditions IsLeftFailure c.args.problem.now p.explored.variables (sorts c.left_failures.new.d) (seen_point first y) ys (c.in_ok-questions.ensures.asked p.explored.variables p.explored.over))

pub leaf_failure-requires : goal.leaf_failure-requires
leaf_failure-requires g c =
    let look = g.D.Domain.look in
    let sorts = g.D.Domain.variables in
    let now = sorts c.left_failures.new.d in
    let ys = seen_questions (look c.left_failures.new.d) c.in_ok-questions.questions in
    let told : IsFirstTrue now ys c.in_ok-found.field-0 = rw c.as_slice.ensures at c.in_ok-found.ensures.first in
    let found : IsFoundFirst now ys c.in-Some.found = subst (IsFirstTrue now ys) c.in-Some.is told in
    record {
      shown = (c.args.steps, left_leaf (look c.args.d.now) c.args.problem.now c.args.steps c.args.place c.requires.steps (sorts c.args.d.now) c.args.point.now c.requires.grounded now ys c.in_ok-questions.ensures.asked c.in-Some.found found);
    }

pub returns-in-Some : goal.returns-in-Some
returns-in-Some g c =
    let look = g.D.Domain.look in
    let sorts = g.D.Domain.variables in
    let now = sorts c.left_failures.new.d in
    let q = c.args.problem.now in
    let k = c.args.place in
    let y = c.args.point.now in
    let p = c.requires.grounded in
    let ys = seen_questions (look c.left_failures.new.d) c.in_ok-questions.questions in
    let told : IsFirstTrue now ys c.in_ok-found.field-0 = rw c.as_slice.ensures at c.in_ok-found.ensures.first in
    let found : IsFoundFirst now ys c.in-Some.found = subst (IsFirstTrue now ys) c.in-Some.is told in
    let of = found_of (look c.args.d.now) q c.args.steps k (sorts c.args.d.now) y p.explored IsLeftFailure now ys c.in_ok-questions.ensures.asked c.in-Some.found found in
    left_kind q c.args.steps k c.in_ok-leaf_failure-in-Some.field-0 c.in-Some.found.flaw of
    (c.in_ok-leaf_failure-in-Some.ensures.witness c.args.steps (left_leaf (look c.args.d.now) q c.args.steps k c.requires.steps (sorts c.args.d.now) y p now ys c.in_ok-questions.ensures.asked c.in-Some.found found))

pub returns : goal.returns
returns g c =
    let look = g.D.Domain.look in
    let sorts = g.D.Domain.variables in
    let now = sorts c.left_failures.new.d in
    let ys = seen_questions (look c.left_failures.new.d) c.in_ok-questions.questions in
    let told : IsFirstTrue now ys c.in_ok-found.field-0 = rw c.as_slice.ensures at c.in_ok-found.ensures.first in
    let never : AreNeverTrue now ys = subst (IsFirstTrue now ys) c.in-None.is told in
    left_none (look c.args.d.now) c.args.problem.now c.args.steps c.args.place c.requires.steps (sorts c.args.d.now) c.args.point.now c.requires.grounded now ys c.in_ok-questions.ensures.asked never
