use Rattle.std.proofs.Common.{ℕ, List, ◌++◌, map, codes, ap, ap₂, ◌∙◌}
use Rattle.sort_term.specs.declared.rule.Rule.{Rule}
use Rattle.sort_term.specs.Tree.{Tree}
use Rattle.ground_step.specs.Reach.{run_of, end_of}
use Rattle.ground_step.specs.Steps.{steps_of}
use Rattle.report_text.specs.Lines.{line_of, lines_of}
use Rattle.report_text.specs.Reports.{rule_at}
use Rattle.report_text.specs.Runs.{end_text}
use Rattle.report_text.specs.States.{tree_text}
use Rattle.report_text.proofs.Parts.{run_written}
use Rattle.report_text.proofs.runs.run_text.Goals as goal

pub returns : goal.returns
returns g c =
    let s = c.args.semantics.now in
    let run = run_of c.args.ended.now.run in
    let lines = λ (rules : List Rule) (steps : List (ℕ × Tree)). lines_of (map (λ (step : ℕ × Tree). rule_at rules step.0) steps) in
    c.from_vec.ensures
    ∙ run_written
    (map (λ (step : ℕ × Tree). rule_at s.rules step.0) run.1)
    (codes "state " ++ tree_text s.cons (end_of run))
    (end_text c.args.ended.now.stopped)
    c.write_steps.new.text.items
    c.write_state.new.text.items
    c.write_line.new.text.items
    (◌∙◌ {A = List ℕ}
    c.in_ok-write_steps.ensures
    (◌∙◌ {A = List ℕ} (ap (λ start. start ++ lines c.as_slice-rules.result.now (steps_of c.as_slice.result.now)) c.new-text.ensures.items) (ap₂ (λ rules steps. lines rules (steps_of steps)) (◌∙◌ {A = List Rule} c.as_slice-rules.ensures c.rules.ensures.value) c.as_slice.ensures)))
    (◌∙◌ {A = List ℕ} c.in_ok-write_state.ensures (ap (λ tree. c.write_steps.new.text.items ++ line_of (codes "state " ++ tree_text s.cons tree)) c.last.ensures))
    (◌∙◌ {A = List ℕ} c.in_ok-write_line.ensures (ap (λ line. c.write_state.new.text.items ++ line_of line) c.end_line.ensures))
