use Rattle.std.proofs.Common.{sym, subst}
use Rattle.probe_keys.proofs.Lengthened.{begins_same}
use Rattle.sort_term.specs.Simulation.{IsWellGroundedAt}
use Rattle.point_questions.specs.Questions.{seen_point, seen_questions, IsRunFlaw}
use Rattle.verdict.specs.Decided.{AreNeverTrue, IsFoundFirst, IsFirstTrue}
use Rattle.verdict.specs.Findings.{IsUngroundedBy}
use Rattle.verdict.proofs.Found.{conditions}
use Rattle.verdict.proofs.Leaves.{has_at, grounded_later}
use Rattle.verdict.proofs.Inside.{run_leaf, run_verdict, run_none}
use Rattle.verdict.proofs.examining.examine_inside.Goals as goal

pub first_true-requires : goal.first_true-requires
first_true-requires g c =
    let look = g.D.Domain.look c.args.d.now in
    let now = g.D.Domain.variables c.args.d.now in
    rw c.as_slice.ensures (conditions IsRunFlaw c.args.problem.now now now (seen_point look c.args.point.now) (seen_questions look c.in_ok-questions.questions) (c.in_ok-questions.ensures.asked c.args.problem.now))

pub leaf_failure-requires : goal.leaf_failure-requires
leaf_failure-requires g c =
    let look = g.D.Domain.look c.args.d.now in
    let now = g.D.Domain.variables c.args.d.now in
    let ys = seen_questions look c.in_ok-questions.questions in
    let told : IsFirstTrue now ys c.in_ok-found.field-0 = rw c.as_slice.ensures at c.in_ok-found.ensures.first in
    let found : IsFoundFirst now ys c.in-Some.found = subst (IsFirstTrue now ys) c.in-Some.is told in
    record { shown = (c.args.steps, run_leaf look c.args.problem.now c.args.steps c.args.place now c.args.point.now c.requires.inside ys (c.in_ok-questions.ensures.asked c.args.problem.now) c.in-Some.found found) }

pub returns-in-Some : goal.returns-in-Some
returns-in-Some g c =
    let look = g.D.Domain.look c.args.d.now in
    let now = g.D.Domain.variables c.args.d.now in
    let q = c.args.problem.now in
    let n = c.args.steps in
    let k = c.args.place in
    let ys = seen_questions look c.in_ok-questions.questions in
    let asked = c.in_ok-questions.ensures.asked q in
    let told : IsFirstTrue now ys c.in_ok-found.field-0 = rw c.as_slice.ensures at c.in_ok-found.ensures.first in
    let found : IsFoundFirst now ys c.in-Some.found = subst (IsFirstTrue now ys) c.in-Some.is told in
    let shown = run_leaf look q n k now c.args.point.now c.requires.inside ys asked c.in-Some.found found in
    subst (IsUngroundedBy q n k) (sym c.verdict_of.ensures) (run_verdict look q n k now c.args.point.now c.requires.inside ys asked c.in-Some.found found c.in_ok-failure-in-Some.failure (c.in_ok-failure-in-Some.ensures.witness n shown))

pub examine_grounded-requires-clause-grounded : goal.examine_grounded-requires-clause-grounded
examine_grounded-requires-clause-grounded g c =
    let sorts = g.D.Domain.variables in
    let look = g.D.Domain.look in
    let first = look c.args.d.now in
    let now = sorts c.args.d.now in
    let q = c.args.problem.now in
    let ys = seen_questions first c.in_ok-questions.questions in
    let told : IsFirstTrue now ys c.in_ok-found.field-0 = rw c.as_slice.ensures at c.in_ok-found.ensures.first in
    let never : AreNeverTrue now ys = subst (IsFirstTrue now ys) c.in-None.is told in
    grounded_later first (look c.first_true.new.d) c.in_ok-found.ensures.extends q c.args.steps c.args.place now (sorts c.first_true.new.d) (begins_same now (sorts c.first_true.new.d) c.in_ok-found.ensures.same_variables) c.args.point.now
    (run_none first q c.args.steps c.args.place now c.args.point.now c.requires.inside ys (c.in_ok-questions.ensures.asked q) never)

pub returns : goal.returns
returns g c =
    let first = g.D.Domain.look c.args.d.now in
    let now = g.D.Domain.variables c.args.d.now in
    let q = c.args.problem.now in
    let ys = seen_questions first c.in_ok-questions.questions in
    let told : IsFirstTrue now ys c.in_ok-found.field-0 = rw c.as_slice.ensures at c.in_ok-found.ensures.first in
    let never : AreNeverTrue now ys = subst (IsFirstTrue now ys) c.in-None.is told in
    let point = run_none first q c.args.steps c.args.place now c.args.point.now c.requires.inside ys (c.in_ok-questions.ensures.asked q) never in
    (has_at q c.args.place point.explored.point (IsWellGroundedAt q c.args.steps) point.explored.there point.grounded, c.in_ok-found-in-None.ensures)
