use Rattle.std.proofs.Common.{sym, subst}
use Rattle.data_value.proofs.Grown.{extends-both}
use Rattle.data_value.specs.Views.{BeginsWith}
use Rattle.point_questions.specs.Questions.{seen_point, seen_questions, IsRightFailure}
use Rattle.verdict.specs.Decided.{AreNeverTrue, IsFoundFirst, IsFirstTrue}
use Rattle.verdict.proofs.Found.{conditions}
use Rattle.verdict.proofs.Leaves.{found_of, failure_leaf, failure_none, failure_kind, excused_later}
use Rattle.verdict.proofs.examining.right_failed.Goals as goal

pub first_true-requires : goal.first_true-requires
first_true-requires g c =
    let look = g.D.Domain.look in
    let sorts = g.D.Domain.variables in
    let first = look c.args.d.now in
    let y = c.args.point.now in
    let p = c.requires.grounded in
    let ys = seen_questions (look c.right_failures.new.d) c.in_ok-questions.questions in
    rw c.as_slice.ensures (conditions IsRightFailure c.args.problem.now p.explored.variables (sorts c.right_failures.new.d) (seen_point first y) ys (c.in_ok-questions.ensures.asked p.explored.variables p.explored.over))

pub leaf_failure-requires : goal.leaf_failure-requires
leaf_failure-requires g c =
    let look = g.D.Domain.look in
    let sorts = g.D.Domain.variables in
    let now = sorts c.right_failures.new.d in
    let ys = seen_questions (look c.right_failures.new.d) c.in_ok-questions.questions in
    let told : IsFirstTrue now ys c.in_ok-found.field-0 = rw c.as_slice.ensures at c.in_ok-found.ensures.first in
    let found : IsFoundFirst now ys c.in-Some.found = subst (IsFirstTrue now ys) c.in-Some.is told in
    record {
      shown = (c.args.steps, failure_leaf (look c.args.d.now) c.args.problem.now c.args.steps c.args.place c.requires.steps (sorts c.args.d.now) c.args.point.now c.requires.grounded now ys c.in_ok-questions.ensures.asked c.in-Some.found found);
    }

pub returns-in-Some : goal.returns-in-Some
returns-in-Some g c =
    let look = g.D.Domain.look in
    let sorts = g.D.Domain.variables in
    let now = sorts c.right_failures.new.d in
    let q = c.args.problem.now in
    let k = c.args.place in
    let y = c.args.point.now in
    let p = c.requires.grounded in
    let ys = seen_questions (look c.right_failures.new.d) c.in_ok-questions.questions in
    let told : IsFirstTrue now ys c.in_ok-found.field-0 = rw c.as_slice.ensures at c.in_ok-found.ensures.first in
    let found : IsFoundFirst now ys c.in-Some.found = subst (IsFirstTrue now ys) c.in-Some.is told in
    let of = found_of (look c.args.d.now) q c.args.steps k (sorts c.args.d.now) y p.explored IsRightFailure now ys c.in_ok-questions.ensures.asked c.in-Some.found found in
    record {
      failed = failure_kind q c.args.steps k c.in_ok-leaf_failure-in-Some.field-0 c.in-Some.found.flaw of
          (c.in_ok-leaf_failure-in-Some.ensures.witness c.args.steps (failure_leaf (look c.args.d.now) q c.args.steps k c.requires.steps (sorts c.args.d.now) y p now ys c.in_ok-questions.ensures.asked c.in-Some.found found));
    }

pub returns : goal.returns
returns g c =
    let look = g.D.Domain.look in
    let sorts = g.D.Domain.variables in
    let now = sorts c.right_failures.new.d in
    let ys = seen_questions (look c.right_failures.new.d) c.in_ok-questions.questions in
    let told : IsFirstTrue now ys c.in_ok-found.field-0 = rw c.as_slice.ensures at c.in_ok-found.ensures.first in
    let never : AreNeverTrue now ys = subst (IsFirstTrue now ys) c.in-None.is told in
    let q = c.args.problem.now in
    let excused = failure_none (look c.args.d.now) q c.args.steps c.args.place c.requires.steps (sorts c.args.d.now) c.args.point.now c.requires.grounded now ys c.in_ok-questions.ensures.asked never in
    let begins : BeginsWith (sorts c.first_true.new.d) (sorts c.args.d.now) = subst (λ vs. BeginsWith vs (sorts c.args.d.now)) (sym c.in_ok-found.ensures.same_variables) c.in_ok-questions.ensures.begins in
    record {
      failed = excused_later (look c.args.d.now) (look c.first_true.new.d) (extends-both _ _ _ c.in_ok-questions.ensures.extends c.in_ok-found.ensures.extends) q c.args.steps c.args.place (sorts c.args.d.now) (sorts c.first_true.new.d) begins c.args.point.now c.requires.grounded excused;
    }
