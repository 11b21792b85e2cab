use Rattle.std.proofs.Common.{sym, ◌∙◌, subst}
use Rattle.unify.specs.Branches.{IsConfiguration}
use Rattle.data_value.proofs.Grown.{extends-both}
use Rattle.point_questions.specs.Posed.{seen_posed}
use Rattle.point_questions.specs.Questions.{seen_point, seen_questions}
use Rattle.verdict.specs.Decided.{AreNeverTrue, IsFoundFirst, IsFirstTrue}
use Rattle.data_value.specs.Views.{IsViewed}
use Rattle.verdict.specs.Examined.{IsInside}
use Rattle.verdict.specs.Explored.{AreExplored}
use Rattle.verdict.specs.Findings.{IsUngroundedBy}
use Rattle.verdict.proofs.Kept.{config_stays, posed_stays}
use Rattle.verdict.proofs.Inside.{outside_shown, outside_verdict}
use Rattle.verdict.proofs.Entering.{entered}
use Rattle.verdict.proofs.examining.examine_held.Goals as goal

pub shown-requires : goal.shown-requires
shown-requires g c =
    let look = g.D.Domain.look in
    let now = g.D.Domain.variables c.args.d.now in
    let later = g.D.Domain.variables c.outside_questions.new.d in
    let x = seen_posed (look c.args.d.now) c.args.posed in
    let ys = seen_questions (look c.outside_questions.new.d) c.in_ok-questions.questions in
    let told : IsFirstTrue later ys c.in_ok-found.field-0 = rw c.as_slice.ensures at c.in_ok-found.ensures.first in
    let found : IsFoundFirst now ys c.in-Some.found = subst (λ vs. IsFoundFirst vs ys c.in-Some.found) c.in_ok-questions.ensures.same_variables (subst (IsFirstTrue later ys) c.in-Some.is told) in
    record { shown = (c.args.steps, outside_shown c.args.problem.now c.args.steps c.args.place now x c.requires.posed ys c.in_ok-questions.ensures.asked c.in-Some.found found) }

pub returns-in_ok-failure-in-Some : goal.returns-in_ok-failure-in-Some
returns-in_ok-failure-in-Some g c =
    let look = g.D.Domain.look in
    let now = g.D.Domain.variables c.args.d.now in
    let later = g.D.Domain.variables c.outside_questions.new.d in
    let q = c.args.problem.now in
    let n = c.args.steps in
    let k = c.args.place in
    let x = seen_posed (look c.args.d.now) c.args.posed in
    let ys = seen_questions (look c.outside_questions.new.d) c.in_ok-questions.questions in
    let told : IsFirstTrue later ys c.in_ok-found.field-0 = rw c.as_slice.ensures at c.in_ok-found.ensures.first in
    let found : IsFoundFirst now ys c.in-Some.found = subst (λ vs. IsFoundFirst vs ys c.in-Some.found) c.in_ok-questions.ensures.same_variables (subst (IsFirstTrue later ys) c.in-Some.is told) in
    let shown = outside_shown q n k now x c.requires.posed ys c.in_ok-questions.ensures.asked c.in-Some.found found in
    subst (IsUngroundedBy q n k) (sym c.verdict_of.ensures) (outside_verdict q n k now x c.requires.posed ys c.in_ok-questions.ensures.asked c.in-Some.found found c.in_ok-failure-in-Some.failure (c.in_ok-failure-in-Some.ensures.witness n shown))

pub explored-requires-clause-left : goal.explored-requires-clause-left
explored-requires-clause-left g c =
    let look = g.D.Domain.look in
    let sys = c.args.problem.now.left in
    subst (IsConfiguration sys) (sym (config_stays (look c.args.d.now) (look c.first_true.new.d) (extends-both _ _ _ c.in_ok-questions.ensures.extends c.in_ok-found.ensures.extends) sys c.args.posed.left.term c.requires.posed.posed.left)) c.requires.posed.posed.left

pub explored-requires-clause-right : goal.explored-requires-clause-right
explored-requires-clause-right g c =
    let look = g.D.Domain.look in
    let sys = c.args.problem.now.right in
    subst (IsConfiguration sys) (sym (config_stays (look c.args.d.now) (look c.first_true.new.d) (extends-both _ _ _ c.in_ok-questions.ensures.extends c.in_ok-found.ensures.extends) sys c.args.posed.right.term c.requires.posed.posed.right)) c.requires.posed.posed.right

pub examine_inside-requires-clause-inside : goal.examine_inside-requires-clause-inside
examine_inside-requires-clause-inside g c =
    let look = g.D.Domain.look in
    let sorts = g.D.Domain.variables in
    let now = sorts c.args.d.now in
    let later = sorts c.outside_questions.new.d in
    let q = c.args.problem.now in
    let n = c.args.steps in
    let k = c.args.place in
    let first = look c.args.d.now in
    let x = seen_posed first c.args.posed in
    let ys = seen_questions (look c.outside_questions.new.d) c.in_ok-questions.questions in
    let told : IsFirstTrue later ys c.in_ok-found.field-0 = rw c.as_slice.ensures at c.in_ok-found.ensures.first in
    let never : AreNeverTrue now ys = subst (λ vs. AreNeverTrue vs ys) c.in_ok-questions.ensures.same_variables (subst (IsFirstTrue later ys) c.in-None.is told) in
    let grown = extends-both _ _ _ c.in_ok-questions.ensures.extends c.in_ok-found.ensures.extends in
    let stays = posed_stays first (look c.first_true.new.d) grown q c.args.posed c.requires.posed.posed.condition c.requires.posed.posed.left c.requires.posed.posed.right in
    let same = c.in_ok-found.ensures.same_variables ∙ c.in_ok-questions.ensures.same_variables in
    let last = c.in_ok-point-in-None.ensures.same_variables ∙ same in
    let explored : AreExplored q n now x (seen_point (look c.explored.new.d) c.in_ok-point-in-None.point) =
    subst (λ vs. AreExplored q n vs x (seen_point (look c.explored.new.d) c.in_ok-point-in-None.point)) same (subst (λ z. AreExplored q n (sorts c.first_true.new.d) z (seen_point (look c.explored.new.d) c.in_ok-point-in-None.point)) stays c.in_ok-point-in-None.ensures.explored) in
    subst (λ vs. IsInside q n k vs (seen_point (look c.explored.new.d) c.in_ok-point-in-None.point)) (sym last)
    (entered (look c.explored.new.d) q n k now (subst (IsViewed (look c.explored.new.d)) last (g.met.D.Symbolic.views c.explored.new.d)) x c.requires.posed ys c.in_ok-questions.ensures.asked never c.in_ok-point-in-None.point explored)
