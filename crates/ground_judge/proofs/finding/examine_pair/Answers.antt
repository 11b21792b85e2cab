use Rattle.std.proofs.Common.{◌≡◌, true, false, sym, ◌∙◌}
use Rattle.std.proofs.lemmas.Result.{IfOk-weaker}
use Rattle.sort_term.specs.Relation.{left, right, InCutOf}
use Rattle.ground_step.specs.Reach.{runs_of}
use Rattle.ground_judge.proofs.Judged.{told}
use Rattle.ground_judge.proofs.Keeping.{met_states}
use Rattle.ground_judge.proofs.Tests.{first_outside_left, first_outside_right}
use Rattle.ground_judge.proofs.finding.examine_pair.Goals as goal

pub returns-then-not-branch : goal.returns-then-not-branch
returns-then-not-branch c =
    let q = c.args.problem.now in
    let a = c.args.left.now.term in
    let out : ¬ InCutOf q left a = λ i. let y : c.in_ok-in_cut.field-0 ≡ true = c.in_ok-in_cut.ensures.1 i in let e : true ≡ false = sym y ∙ c.if-not-branch.true in absurd cc in
    λ p only. first_outside_left q c.args.steps p a c.args.right.now.term only out

pub returns-then-not-branch-2 : goal.returns-then-not-branch-2
returns-then-not-branch-2 c =
    let q = c.args.problem.now in
    let b = c.args.right.now.term in
    let out : ¬ InCutOf q right b = λ i. let y : c.in_ok-in_cut-2.field-0 ≡ true = c.in_ok-in_cut-2.ensures.1 i in let e : true ≡ false = sym y ∙ c.if-not-branch-2.true in absurd cc in
    λ p only. first_outside_right q c.args.steps p c.args.left.now.term b only (c.in_ok-in_cut.ensures.0 c.if-not-branch.false) out

pub examine_runs-found-requires-clause-lefts : goal.examine_runs-found-requires-clause-lefts
examine_runs-found-requires-clause-lefts c =
    let q = c.args.problem.now in
    met_states q.left q.left_program q.points.left_cuts c.args.left.now.term c.args.steps (runs_of c.in_ok-lefts.lefts.met) q.fits.left_semantics c.requires.left c.in_ok-lefts.ensures.met

pub examine_runs-found-requires-clause-rights : goal.examine_runs-found-requires-clause-rights
examine_runs-found-requires-clause-rights c =
    let q = c.args.problem.now in
    met_states q.right q.right_program q.points.right_cuts c.args.right.now.term c.args.steps (runs_of c.in-Ok.rights.met) q.fits.right_semantics c.requires.right c.in-Ok.ensures.met

pub returns-in-Ok : goal.returns-in-Ok
returns-in-Ok c =
    IfOk-weaker c.examine_runs-found.result _ _
    (λ found tells p only.
    told c.args.problem.now c.args.steps p c.args.left.now.term c.args.right.now.term only c.requires.no_undefined c.in_ok-lefts.lefts c.in-Ok.rights (c.in_ok-in_cut.ensures.0 c.if-not-branch.false) (c.in_ok-in_cut-2.ensures.0 c.if-not-branch-2.false)
    c.in_ok-lefts.ensures.long c.in-Ok.ensures.long c.in_ok-lefts.ensures.halted c.in-Ok.ensures.halted found c.in_ok-lefts.ensures.met c.in-Ok.ensures.met tells)
    c.examine_runs-found.ensures
