use Rattle.std.proofs.Common.{ℕ}
use Rattle.sort_term.specs.Tree.{Tree}
use Rattle.ground_step.specs.Steps.{step_of}
use Rattle.report_text.specs.Reports.{rule_at}
use Rattle.report_text.proofs.Written.{viewed_more}
use Rattle.report_text.proofs.runs.write_steps.Goals as goal

pub loop-step-preserved : goal.loop-step-preserved
loop-step-preserved g c = viewed_more step_of (λ (step : ℕ × Tree). rule_at c.args.rules.now step.0) c.args.steps.now c.loop-step.step-index c.step-item.result c.loop-step-test.true c.step-item.is _ _ _ c.loop-step.invariant c.in_ok-write_rule.ensures
