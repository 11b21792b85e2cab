-- The report of a verdict.
use Rattle.std.specs.Prelude.{ℕ, List, [], ◌∷◌, ◌++◌, Option, Some, None, option_map, map, slice_get, codes}
use Rattle.std.specs.List.{zip}
use Rattle.data_value.specs.declared.Value.{Value}
use Rattle.sort_term.specs.declared.points.Point.{Point}
use Rattle.sort_term.specs.declared.problem.Problem.{Problem}
use Rattle.sort_term.specs.declared.rule.Rule.{Rule}
use Rattle.sort_term.specs.declared.rule.Var.{Var}
use Rattle.sort_term.specs.Relation.{Side, left, right}
use Rattle.sort_term.specs.System.{System}
use Rattle.ground_step.specs.declared.verdict.Failure.{Failure}
use Rattle.ground_step.specs.declared.verdict.Verdict.{Verdict}
use Rattle.ground_step.specs.declared.verdict.Verdict.TheVariants as verdict
use Rattle.ground_step.specs.Shows.{side_of, reached_side, reached_tree}
use Rattle.report_text.specs.Values.{value_text}
use Rattle.report_text.specs.States.{name_text, tree_text}
use Rattle.report_text.specs.Lines.{lines_of, point_text, rule_text}

-- the first line, which says the verdict
abbrev pub verdict_text : Verdict → List ℕ
verdict_text verdict.Equivalent = codes "equivalent"
verdict_text (verdict.Refines f) = codes "refines"
verdict_text (verdict.Unmatched f) = codes "unmatched"
verdict_text (verdict.Void k) = codes "not grounded: void"
verdict_text (verdict.Outside f) = codes "not grounded: outside"
verdict_text (verdict.Long f) = codes "not grounded: long"
verdict_text (verdict.Halted f) = codes "not grounded: halted"

-- `side left` or `side right`
abbrev pub side_text : Side → List ℕ
side_text left = codes "side left"
side_text right = codes "side right"

-- `value NAME VALUE` of a variable and its value
abbrev pub value_line : Var × Value → List ℕ
value_line pair = codes "value " ++ pair.0.name ++ 32 ∷ value_text pair.1

-- `rule NAME` of a rule, by its place
abbrev pub rule_at : List Rule → ℕ → List ℕ
rule_at rules k = rule_text (name_text (option_map (λ rule. rule.name) (slice_get rules k)))

-- the semantics of a side
abbrev pub system_on : Problem → Side → System
system_on q left = q.left
system_on q right = q.right

-- the point with this place
abbrev pub point_at : Problem → ℕ → Option Point
point_at q k = slice_get q.points.points k

-- `point NAME`
abbrev pub point_line : Problem → ℕ → List ℕ
point_line q k = point_text (name_text (option_map (λ p. p.name) (point_at q k)))

-- the variables of a point, with their values
abbrev pub value_lines : Option Point → List Value → List (List ℕ)
value_lines None xs = []
value_lines (Some p) xs = map value_line (zip p.vars xs)

-- What a failure says: its point, its side, the values of the point's variables, the two states, the rules of the run, and the
-- state that it reaches.
abbrev pub failure_lines : Problem → Failure → List (List ℕ)
failure_lines q f =
    point_line q f.point ∷ side_text (side_of f.side) ∷ value_lines (point_at q f.point) f.values
    ++ (codes "left " ++ tree_text q.left.cons f.left.term) ∷ (codes "right " ++ tree_text q.right.cons f.right.term)
    ∷ map (λ r. rule_at (system_on q (side_of f.side)).rules r.0) f.rules
    ++ (codes "reached " ++ tree_text (system_on q (reached_side f.reached)).cons (reached_tree f.reached)) ∷ []

-- what stands behind the first line
abbrev pub further_lines : Problem → Verdict → List (List ℕ)
further_lines q verdict.Equivalent = []
further_lines q (verdict.Refines f) = failure_lines q f
further_lines q (verdict.Unmatched f) = failure_lines q f
further_lines q (verdict.Void k) = point_line q k ∷ []
further_lines q (verdict.Outside f) = failure_lines q f
further_lines q (verdict.Long f) = failure_lines q f
further_lines q (verdict.Halted f) = failure_lines q f

-- the report
abbrev pub report_of : Problem → Verdict → List ℕ
report_of q v = lines_of (verdict_text v ∷ further_lines q v)
