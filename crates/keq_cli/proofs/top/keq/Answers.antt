use Rattle.std.proofs.Common.{Option, sym, subst}
use Rattle.keq_cli.specs.Outcome.{Outcome}
use Rattle.keq_cli.specs.Words.{Command, asked}
use Rattle.keq_cli.specs.Reports.{bad_words_line}
use Rattle.keq_cli.specs.declared.status.Status.{Status}
use Rattle.keq_cli.specs.declared.status.Status.TheVariants.{Usage}
use Rattle.keq_cli.proofs.Outcomes.{wanted, usage_outcome, command_answers, put_answer}
use Rattle.keq_cli.proofs.top.keq.Goals as goal

pub returns-in_default-clause-outcome : goal.returns-in_default-clause-outcome
returns-in_default-clause-outcome g c = λ answer.
    let held = g.F.Shelf.holds c.args.shelf.now in
    let command = asked c.args.words.now in
    let outcome = usage_outcome held command c.in_default.ensures.asked in
    (bad_words_line, subst (λ (s : Status). Outcome held command s bad_words_line) (sym (wanted c.put_report.ensures.status answer)) outcome, c.put_report.ensures.whole answer)

pub returns-in_default-clause-front : goal.returns-in_default-clause-front
returns-in_default-clause-front g c = λ failed. (Usage, (bad_words_line, (usage_outcome (g.F.Shelf.holds c.args.shelf.now) (asked c.args.words.now) c.in_default.ensures.asked, c.put_report.ensures.front)))

pub returns-in-Ok-clause-outcome : goal.returns-in-Ok-clause-outcome
returns-in-Ok-clause-outcome g c = λ answered.
    let held = g.F.Shelf.holds c.args.shelf.now in
    let command = asked c.args.words.now in
    let answer = c.in-Ok.answer in
    let text = c.as_slice.result.now in
    let of_words : Outcome held command answer.status answer.report = subst (λ (asks : Option Command). Outcome held asks answer.status answer.report) c.in-Some.ensures.asked c.in-Ok.ensures.outcome in
    let of_text : Outcome held command answer.status text = subst (Outcome held command answer.status) (sym c.as_slice.ensures) of_words in
    (text, subst (λ (s : Status). Outcome held command s text) (sym (wanted c.put_report-in-Ok.ensures.status answered)) of_text, c.put_report-in-Ok.ensures.whole answered)

pub returns-in-Ok-clause-front : goal.returns-in-Ok-clause-front
returns-in-Ok-clause-front g c = λ failed.
    let held = g.F.Shelf.holds c.args.shelf.now in
    let command = asked c.args.words.now in
    let answer = c.in-Ok.answer in
    let text = c.as_slice.result.now in
    let of_words : Outcome held command answer.status answer.report = subst (λ (asks : Option Command). Outcome held asks answer.status answer.report) c.in-Some.ensures.asked c.in-Ok.ensures.outcome in
    let of_text : Outcome held command answer.status text = subst (Outcome held command answer.status) (sym c.as_slice.ensures) of_words in
    (answer.status, (text, (of_text, c.put_report-in-Ok.ensures.front)))

pub returns-in-Ok-clause-usage_whole : goal.returns-in-Ok-clause-usage_whole
returns-in-Ok-clause-usage_whole g c = λ is. absurd ((put_answer (command_answers _ _ _ _ c.in-Ok.ensures.outcome) c.put_report-in-Ok.ensures.status).0 is)

pub returns-in-Ok-clause-usage_only : goal.returns-in-Ok-clause-usage_only
returns-in-Ok-clause-usage_only g c = λ is. absurd ((put_answer (command_answers _ _ _ _ c.in-Ok.ensures.outcome) c.put_report-in-Ok.ensures.status).0 is)

pub returns-in-Ok-clause-read_cause : goal.returns-in-Ok-clause-read_cause
returns-in-Ok-clause-read_cause g c = λ is. absurd ((put_answer (command_answers _ _ _ _ c.in-Ok.ensures.outcome) c.put_report-in-Ok.ensures.status).1 is)

pub returns-in-Ok-clause-read_alone : goal.returns-in-Ok-clause-read_alone
returns-in-Ok-clause-read_alone g c = λ is. absurd ((put_answer (command_answers _ _ _ _ c.in-Ok.ensures.outcome) c.put_report-in-Ok.ensures.status).1 is)

pub returns-in-Ok-clause-read_steady : goal.returns-in-Ok-clause-read_steady
returns-in-Ok-clause-read_steady g c = λ steady is. (put_answer (command_answers _ _ _ _ c.in-Ok.ensures.outcome) c.put_report-in-Ok.ensures.status).1 is

pub returns-in-Ok-clause-memory_alone : goal.returns-in-Ok-clause-memory_alone
returns-in-Ok-clause-memory_alone g c = λ is. absurd ((put_answer (command_answers _ _ _ _ c.in-Ok.ensures.outcome) c.put_report-in-Ok.ensures.status).2 is)
