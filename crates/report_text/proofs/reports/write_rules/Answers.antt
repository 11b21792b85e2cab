use Rattle.std.proofs.Common.{get_or}
use Rattle.std.proofs.lemmas.List.{get_or_default}
use Rattle.sort_term.specs.declared.ids.RuleId.{RuleId}
use Rattle.report_text.specs.Reports.{rule_at}
use Rattle.report_text.proofs.Written.{lines_more}
use Rattle.report_text.proofs.reports.write_rules.Goals as goal

pub loop-rule-preserved : goal.loop-rule-preserved
loop-rule-preserved c =
    let run = c.args.run.now in
    let i = c.loop-rule.rule-index in
    let none : RuleId = record { 0 = 0 } in
    let here = get_or run i none in
    lines_more (λ (r : RuleId). rule_at c.args.rules.now r.0) run i here c.loop-rule-test.true (get_or_default run i none here c.loop-rule-test.true) _ _ _ c.loop-rule.invariant c.in_ok-write_rule.ensures
