use Rattle.std.proofs.Common.{◌≡◌, ◌++◌, map, take}
use Rattle.sort_term.specs.declared.ids.RuleId.{RuleId}
use Rattle.report_text.specs.Lines.{lines_of}
use Rattle.report_text.specs.Reports.{rule_at}
use Rattle.report_text.proofs.reports.write_rules.Given as goal

-- the lines of the rules so far were written
abbrev pub invariant-loop-rule : goal.invariant-loop-rule
invariant-loop-rule l = l.text.items ≡ l.initial.text.items ++ lines_of (map (λ (r : RuleId). rule_at l.rules r.0) (take l.rule-index l.run))
