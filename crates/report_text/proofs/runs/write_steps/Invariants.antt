use Rattle.std.proofs.Common.{◌≡◌, ℕ, ◌++◌, map, take}
use Rattle.sort_term.specs.Tree.{Tree}
use Rattle.ground_step.specs.Steps.{steps_of}
use Rattle.report_text.specs.Lines.{lines_of}
use Rattle.report_text.specs.Reports.{rule_at}
use Rattle.report_text.proofs.runs.write_steps.Given as goal

-- the lines of the steps so far were written
abbrev pub invariant-loop-step : goal.invariant-loop-step
invariant-loop-step g l = l.text.items ≡ l.initial.text.items ++ lines_of (map (λ (step : ℕ × Tree). rule_at l.rules step.0) (take l.step-index (steps_of l.steps)))
