use Rattle.std.proofs.Common.{◌+◌, ◌<◌, ◌≤◌, length, sym, ◌∙◌, subst}
use Rattle.ground_step.specs.Shows.{IsRight}
use Rattle.verdict.specs.declared.standing.Finding.TheVariants.{Ungrounded, Grounded}
use Rattle.verdict.specs.Findings.{Finds, IsStanding, IsSimulationVerdict}
use Rattle.verdict.proofs.Standings.{stands_more, ungrounded_right, all_grounded, standing_right, standing_simulates, standing_matches}
use Rattle.verdict.proofs.judging.judge.Goals as goal

pub returns-in-Ok-Ungrounded-clause-right : goal.returns-in-Ok-Ungrounded-clause-right
returns-in-Ok-Ungrounded-clause-right c =
    let q = c.args.problem.now in
    let here : c.loop-place.place < length q.points.points = subst (λ m. c.loop-place.place < m) c.len-place-end.ensures c.loop-place-test.true in
    let found : Finds q c.args.steps c.loop-place.place c.loop-place.standing (Ungrounded c.in-Ok-Ungrounded.verdict) = subst (Finds q c.args.steps c.loop-place.place c.loop-place.standing) c.in-Ok-Ungrounded.field-0-is c.in-Ok-Ungrounded.ensures in
    ungrounded_right q c.args.steps c.requires.steps c.loop-place.place c.loop-place.standing here c.loop-place.invariant c.in-Ok-Ungrounded.verdict found

pub loop-place-preserved : goal.loop-place-preserved
loop-place-preserved c =
    let q = c.args.problem.now in
    let found : Finds q c.args.steps c.loop-place.place c.loop-place.standing (Grounded c.in-Ok-Grounded.found) = subst (Finds q c.args.steps c.loop-place.place c.loop-place.standing) c.in-Ok-Grounded.field-0-is c.in-Ok-Grounded.ensures in
    subst (IsStanding q c.args.steps (c.loop-place.place + 1)) (sym c.after-standing.ensures) (stands_more q c.args.steps c.loop-place.place c.loop-place.standing c.in-Ok-Grounded.found c.loop-place.invariant found)

pub returns-clause-right : goal.returns-clause-right
returns-clause-right c =
    let q = c.args.problem.now in
    let all : length q.points.points ≤ c.loop-place.place = subst (λ m. m ≤ c.loop-place.place) c.len-place-end.ensures c.loop-place-test.false in
    subst (IsRight q c.args.steps) (sym c.verdict.ensures) (standing_right q c.args.steps c.requires.steps c.loop-place.place all c.loop-place.standing c.loop-place.invariant)

pub returns-clause-grounded : goal.returns-clause-grounded
returns-clause-grounded c =
    let q = c.args.problem.now in
    let all : length q.points.points ≤ c.loop-place.place = subst (λ m. m ≤ c.loop-place.place) c.len-place-end.ensures c.loop-place-test.false in
    λ h. all_grounded q c.args.steps c.requires.steps c.loop-place.place all c.loop-place.standing c.loop-place.invariant

pub returns-clause-simulated : goal.returns-clause-simulated
returns-clause-simulated c =
    let q = c.args.problem.now in
    let all : length q.points.points ≤ c.loop-place.place = subst (λ m. m ≤ c.loop-place.place) c.len-place-end.ensures c.loop-place-test.false in
    λ h. standing_simulates q c.args.steps c.requires.steps c.loop-place.place all c.loop-place.standing c.loop-place.invariant (subst IsSimulationVerdict c.verdict.ensures h)

pub returns-clause-matched : goal.returns-clause-matched
returns-clause-matched c =
    let q = c.args.problem.now in
    let all : length q.points.points ≤ c.loop-place.place = subst (λ m. m ≤ c.loop-place.place) c.len-place-end.ensures c.loop-place-test.false in
    λ h. standing_matches q c.args.steps c.requires.steps c.loop-place.place all c.loop-place.standing c.loop-place.invariant (sym c.verdict.ensures ∙ h)
