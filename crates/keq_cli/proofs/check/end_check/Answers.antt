use Rattle.sync_points.proofs.Drafts.{texts_have_no_undefs}
use Rattle.keq_cli.specs.Plan.{Ends}
use Rattle.keq_cli.specs.Stopping.{StopsWith}
use Rattle.keq_cli.specs.Tasks.{check_plan}
use Rattle.keq_cli.specs.declared.status.Status.TheVariants.{Refused}
use Rattle.keq_cli.proofs.Stops.{passed_on}
use Rattle.keq_cli.proofs.TaskEnds.{problem_ends, problem_stops}
use Rattle.keq_cli.proofs.check.end_check.Goals as goal

pub end_problem-ended-requires-clause-no_undefined : goal.end_problem-ended-requires-clause-no_undefined
end_problem-ended-requires-clause-no_undefined c = texts_have_no_undefs _ _ _ _ c.in_ok-problem.ensures.made.points_text

pub returns-in_err-problem-clause-stops : goal.returns-in_err-problem-clause-stops
returns-in_err-problem-clause-stops c =
    passed_on (StopsWith (Ends (check_plan c.args.steps) c.args.texts.now Refused)) _ c.from_residual.result c.from_residual.ensures.1 (c.in_err-problem.ensures.stops c.args.steps)

pub returns-clause-ends : goal.returns-clause-ends
returns-clause-ends c =
    let ended = c.end_problem-ended in
    problem_ends c.args.texts.now c.args.steps c.in_ok-problem.problem c.in_ok-problem.ensures.made ended.result ended.ensures.ground ended.ensures.judged

pub returns-clause-stops : goal.returns-clause-stops
returns-clause-stops c =
    let ended = c.end_problem-ended in
    problem_stops c.args.texts.now c.args.steps c.in_ok-problem.problem c.in_ok-problem.ensures.made ended.result ended.ensures.stops
