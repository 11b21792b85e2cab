use Rattle.std.proofs.Common.{◌++◌, List, map, codes, ap, ap₂, ◌∙◌}
use Rattle.sort_term.specs.declared.ids.RuleId.{RuleId}
use Rattle.sort_term.specs.declared.rule.Rule.{Rule}
use Rattle.ground_step.specs.Shows.{side_of, reached_side, reached_tree}
use Rattle.report_text.specs.States.{tree_text}
use Rattle.report_text.specs.Lines.{line_of, lines_of}
use Rattle.report_text.specs.Reports.{point_line, side_text, value_lines, point_at, rule_at, system_on}
use Rattle.report_text.proofs.Parts.{failure_written}
use Rattle.report_text.proofs.reports.write_failure.Goals as goal

pub returns : goal.returns
returns c =
    let q = c.args.problem.now in
    let f = c.args.failure.now in
    let rules = map (λ (r : RuleId). rule_at (system_on q (side_of f.side)).rules r.0) f.rules in
    let reached = codes "reached " ++ tree_text (system_on q (reached_side f.reached)).cons (reached_tree f.reached) in
    failure_written
    (point_line q f.point)
    (side_text (side_of f.side))
    (value_lines (point_at q f.point) f.values)
    (codes "left " ++ tree_text q.left.cons f.left.term)
    (codes "right " ++ tree_text q.right.cons f.right.term)
    rules
    reached
    c.args.text.now.items
    c.write_point.new.text.items
    c.write_line.new.text.items
    c.write_values.new.text.items
    c.write_state.new.text.items
    c.write_state-2.new.text.items
    c.write_rules.new.text.items
    c.write_reached.new.text.items
    c.in_ok-write_point.ensures
    (c.in_ok-write_line.ensures ∙ ap (λ line. c.write_point.new.text.items ++ line_of line) c.side_line.ensures)
    c.in_ok-write_values.ensures
    c.in_ok-write_state.ensures
    c.in_ok-write_state-2.ensures
    (c.in_ok-write_rules.ensures ∙ ap₂ (λ (rs : List Rule) (run : List RuleId). c.write_state-2.new.text.items ++ lines_of (map (λ (r : RuleId). rule_at rs r.0) run)) c.rules_on-rules.ensures c.as_slice.ensures)
    c.in_ok-write_reached.ensures
