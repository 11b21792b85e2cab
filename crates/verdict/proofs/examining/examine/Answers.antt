use Rattle.std.proofs.Common.{arith, ◌≡◌, slice_index_or, Some, refl, sym, ap, ◌∙◌, subst}
use Rattle.prover.specs.Answers.{MatchAnswer, IsNever, IsNeverTrue, IsTrueUnder}
use Rattle.sort_term.specs.Relation.{IsPoint}
use Rattle.sort_term.specs.Verdict.{FirstTest}
use Rattle.sort_term.specs.Simulation.{void}
use Rattle.sort_term.proofs.Standing.{get-some}
use Rattle.point_questions.specs.Posed.{seen_posed, IsPosed}
use Rattle.point_questions.proofs.Excluding.{void_law}
use Rattle.verdict.specs.Examined.{IsPosedHeld}
use Rattle.verdict.proofs.Kept.{posed_stays}
use Rattle.verdict.proofs.Leaves.{has_at}
use Rattle.verdict.proofs.examining.examine.Goals as goal

pub examine_held-requires-clause-posed : goal.examine_held-requires-clause-posed
examine_held-requires-clause-posed g c =
    let look = g.D.Domain.look in
    let sorts = g.D.Domain.variables in
    let q = c.args.problem.now in
    let p = c.index-as_slice-place.result in
    let first = look c.posed.new.d in
    let x = seen_posed first c.in_ok-posed.posed in
    let at : p ≡ slice_index_or q.points.points c.args.place p = rw c.as_slice.ensures at c.index-as_slice-place.is in
    let there : IsPoint q c.args.place p = get-some q.points.points c.args.place p c.requires.there ∙ ap Some (sym at) in
    let posed : IsPosed (sorts c.posed.new.d) q p x = c.in_ok-posed.ensures.posed in
    let stays = posed_stays first (look c.decide.new.d) c.in_ok-decide.ensures.extends q c.in_ok-posed.posed posed.condition posed.left posed.right in
    let values = c.in-Holds.field-0 in
    let true_under : IsTrueUnder (sorts c.posed.new.d) x.condition values =
    subst (λ a. MatchAnswer a (Unit {0}) (IsTrueUnder (sorts c.posed.new.d) x.condition)) c.in-Holds.is c.in_ok-decide.ensures.valuation in
    let held : IsPosedHeld q c.args.place (sorts c.posed.new.d) x = record { point = p; there = there; posed = posed; values = values; fits = true_under.fits; holds = true_under.holds } in
    subst (λ vs. IsPosedHeld q c.args.place vs (seen_posed (look c.decide.new.d) c.in_ok-posed.posed)) (sym c.in_ok-decide.ensures.same_variables) (subst (IsPosedHeld q c.args.place (sorts c.posed.new.d)) (sym stays) held)

pub returns-in-Never : goal.returns-in-Never
returns-in-Never g c =
    let look = g.D.Domain.look in
    let sorts = g.D.Domain.variables in
    let q = c.args.problem.now in
    let p = c.index-as_slice-place.result in
    let x = seen_posed (look c.posed.new.d) c.in_ok-posed.posed in
    let at : p ≡ slice_index_or q.points.points c.args.place p = rw c.as_slice.ensures at c.index-as_slice-place.is in
    let there : IsPoint q c.args.place p = get-some q.points.points c.args.place p c.requires.there ∙ ap Some (sym at) in
    let never : IsNeverTrue (sorts c.posed.new.d) x.condition = c.in_ok-decide.ensures.never.0 (subst IsNever (sym c.in-Never.is) tt) in
    (refl, has_at q c.args.place p (FirstTest q c.args.steps void) there (void_law _ q p (sorts c.posed.new.d) x c.in_ok-posed.ensures.posed never, λ u l. absurd (omega arith)))
