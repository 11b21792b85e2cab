use Rattle.std.proofs.Common.{sym, subst}
use Rattle.std.specs.Prelude.{MatchOption}
use Rattle.sort_term.specs.Simulation.{RightIsExcused}
use Rattle.sort_term.specs.Verdict.{unmatched}
use Rattle.ground_step.specs.Shows.{Witness}
use Rattle.point_questions.specs.Questions.{seen_point}
use Rattle.verdict.specs.Examined.{IsExcusedPoint}
use Rattle.verdict.specs.Findings.{HasAt, IsSound, IsMissing}
use Rattle.verdict.proofs.Leaves.{has_at}
use Rattle.verdict.proofs.Inside.{sound_any}
use Rattle.verdict.proofs.examining.examine_grounded.Goals as goal

pub returns-in-Missed : goal.returns-in-Missed
returns-in-Missed g c =
    let q = c.args.problem.now in
    let E = IsExcusedPoint q c.args.steps c.args.place (g.D.Domain.variables c.right_failed.new.d) (seen_point (g.D.Domain.look c.right_failed.new.d) c.args.point.now) in
    let e : E = subst (λ o. MatchOption o E (Witness q c.args.steps (unmatched c.args.place))) c.in-None.is c.in_ok-failure.ensures.failed in
    subst (λ s. HasAt q c.args.place (IsSound q s)) (sym c.in-Missed.is) (has_at q c.args.place e.explored.point (RightIsExcused q) e.explored.there e.excused)

pub returns-in-Some-2 : goal.returns-in-Some-2
returns-in-Some-2 g c =
    let q = c.args.problem.now in
    let E = IsExcusedPoint q c.args.steps c.args.place (g.D.Domain.variables c.right_failed.new.d) (seen_point (g.D.Domain.look c.right_failed.new.d) c.args.point.now) in
    let e : E = subst (λ o. MatchOption o E (Witness q c.args.steps (unmatched c.args.place))) c.in-None.is c.in_ok-failure.ensures.failed in
    (has_at q c.args.place e.explored.point (RightIsExcused q) e.explored.there e.excused, subst (IsMissing q c.args.steps c.args.place) c.in-Some-2.is c.in_ok-failure-2.ensures)

pub returns-in-None-2 : goal.returns-in-None-2
returns-in-None-2 g c =
    let q = c.args.problem.now in
    let E = IsExcusedPoint q c.args.steps c.args.place (g.D.Domain.variables c.right_failed.new.d) (seen_point (g.D.Domain.look c.right_failed.new.d) c.args.point.now) in
    let e : E = subst (λ o. MatchOption o E (Witness q c.args.steps (unmatched c.args.place))) c.in-None.is c.in_ok-failure.ensures.failed in
    let excused = has_at q c.args.place e.explored.point (RightIsExcused q) e.explored.there e.excused in
    let both = subst (IsMissing q c.args.steps c.args.place) c.in-None-2.is c.in_ok-failure-2.ensures in
    λ p is. let m = both p is in sound_any q c.args.standing.now p (excused p is, m.0, m.1)
