-- The text of a run by the first rules.
use Rattle.std.specs.Prelude.{ℕ, List, [], ◌∷◌, ◌++◌, Bool, if◌then◌else◌, map, codes}
use Rattle.sort_term.specs.System.{System}
use Rattle.ground_step.specs.Reach.{StartedRun, end_of}
use Rattle.report_text.specs.States.{tree_text}
use Rattle.report_text.specs.Lines.{lines_of}
use Rattle.report_text.specs.Reports.{rule_at}

-- whether a run has stopped
abbrev pub end_text : Bool → List ℕ
end_text stopped = if stopped then codes "stopped" else codes "going"

-- `rule NAME` for each step, the last state, and whether the run has stopped there
abbrev pub run_report : System → StartedRun → Bool → List ℕ
run_report s run stopped =
    lines_of (map (λ step. rule_at s.rules step.0) run.1 ++ (codes "state " ++ tree_text s.cons (end_of run)) ∷ end_text stopped ∷ [])
