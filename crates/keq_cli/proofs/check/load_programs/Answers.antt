use Rattle.keq_cli.specs.Stopping.{StopsCheck}
use Rattle.keq_cli.proofs.Stops.{passed_on}
use Rattle.keq_cli.proofs.TaskEnds.{stops_left_program, stops_right_program}
use Rattle.keq_cli.proofs.check.load_programs.Goals as goal

pub returns-in_err-left_program-clause-stops : goal.returns-in_err-left_program-clause-stops
returns-in_err-left_program-clause-stops c =
    let texts = c.args.texts.now in
    passed_on (StopsCheck texts) _ c.from_residual.result c.from_residual.ensures.1 (λ steps. stops_left_program texts steps c.args.left.now c.requires.left_text c.args.right.now c.requires.right_text _ c.in_err-left_program.ensures.stops)

pub returns-in-Err-clause-stops : goal.returns-in-Err-clause-stops
returns-in-Err-clause-stops c =
    λ steps. stops_right_program c.args.texts.now steps c.args.left.now c.requires.left_text c.args.right.now c.requires.right_text c.in_ok-left_program.left_program c.in_ok-left_program.ensures.made c.in-Err.stopped c.in-Err.ensures.stops
