use Rattle.keq_cli.specs.Asked.{command_view, task_view}
use Rattle.keq_cli.proofs.Held.{fetched_outcome, fetched_held}
use Rattle.keq_cli.proofs.Outcomes.{task_answers}
use Rattle.keq_cli.proofs.commands.answer_command.Goals as goal

pub returns-clause-outcome : goal.returns-clause-outcome
returns-clause-outcome g c =
    let command = c.args.command.now in
    let answer = c.in_ok-answer_task.field-0 in
    fetched_outcome (g.F.Shelf.holds c.args.shelf.now) command.names.now (task_view command.task) c.in_ok-texts.texts c.in_ok-texts.ensures.as_many c.in_ok-texts.ensures.texts answer.status answer.report c.in_ok-answer_task.ensures

pub returns-clause-answer : goal.returns-clause-answer
returns-clause-answer g c =
    let answer = c.in_ok-answer_task.field-0 in
    (task_answers (task_view c.args.command.now.task) c.in_ok-texts.texts answer.status answer.report c.in_ok-answer_task.ensures).0

pub returns-clause-held : goal.returns-clause-held
returns-clause-held g c = fetched_held (g.F.Shelf.holds c.args.shelf.now) (command_view c.args.command.now) c.in_ok-texts.texts c.in_ok-texts.ensures.texts
