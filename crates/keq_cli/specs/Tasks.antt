-- What is done with the texts of a command.
use Rattle.std.specs.Prelude.{◌≡◌, ◌↔◌, ℕ, Bool, IsTrue, List, [], take, slice_get, slice_index_or, All, Some}
use Rattle.rule_text.specs.Faults.{IsFaultOf}
use Rattle.rule_text.specs.declared.error.LoadFault.{LoadFault}
use Rattle.sort_term.specs.declared.points.Point.{Point}
use Rattle.sort_term.specs.declared.points.Points.{Points}
use Rattle.sort_term.specs.declared.problem.Problem.{Problem}
use Rattle.sort_term.specs.Relation.{Side, IsPoint}
use Rattle.sort_term.specs.Simulation.{Test}
use Rattle.sort_term.specs.Step.{Tables}
use Rattle.sort_term.specs.System.{System}
use Rattle.sort_term.specs.Tree.{Tree}
use Rattle.sort_term.specs.Verdict.{IsVerdict}
use Rattle.sort_term.specs.Verdict as kind
use Rattle.ground_step.specs.Reach.{StartedRun, FirstRunFrom, IsStuckIn, end_of}
use Rattle.ground_judge.specs.Ground.{IsGroundPoint}
use Rattle.semantics_load.specs.Declaring.{nothing}
use Rattle.semantics_load.specs.Loads.{semantics_loading}
use Rattle.semantics_load.specs.Text.{IsSemanticsText}
use Rattle.program_text.specs.Rows.{no_rows, program_loading}
use Rattle.program_text.specs.States.{no_start, start_loading}
use Rattle.program_text.specs.Text.{IsProgramText, IsStartText}
use Rattle.sync_points.specs.Pieces.{no_points}
use Rattle.sync_points.specs.Loads.{points_loading}
use Rattle.sync_points.specs.Text.{IsPointsText}
use Rattle.report_text.specs.Refusals.{refusal_of}
use Rattle.report_text.specs.Runs.{run_report}
use Rattle.report_text.specs.declared.role.Role.{Role}
use Rattle.report_text.specs.declared.role.Role.TheVariants.{LeftSemantics, RightSemantics, LeftProgram, RightProgram, Points as PointsRole, Semantics, Program, Start}
use Rattle.keq_cli.specs.Words.{Task, check, run}
use Rattle.keq_cli.specs.Plan.{Texts, Plan, loads, ends}
use Rattle.keq_cli.specs.Reports.{equivalent_line, refines_lines, unmatched_lines, not_grounded_lines, variables_line}
use Rattle.keq_cli.specs.declared.status.Status.{Status}
use Rattle.keq_cli.specs.declared.status.Status.TheVariants.{Equivalent, Refines, Unmatched, NotGrounded, Done}

-- the text with this place
abbrev pub text_at : Texts → ℕ → List ℕ
text_at texts k = slice_index_or texts k []

-- the line is the refusal of a text for its first fault
pub record IsRefusal (role : Role) (IsFault : LoadFault → Type 0) (line : List ℕ) : Type 0 where
  pub fault : LoadFault
  pub first : IsFault fault
  pub is : line ≡ refusal_of role fault

-- the text with this place is loaded as a semantics
abbrev pub with_semantics : Role → ℕ → (System → Plan) → Plan
with_semantics role k next =
    loads System (λ texts s. IsSemanticsText (text_at texts k) s) (λ texts. IsRefusal role (IsFaultOf semantics_loading nothing (text_at texts k))) next

-- as a program of a semantics
abbrev pub with_program : Role → ℕ → System → (Tables → Plan) → Plan
with_program role k s next =
    loads Tables (λ texts. IsProgramText s (text_at texts k)) (λ texts. IsRefusal role (IsFaultOf program_loading (no_rows s) (text_at texts k))) next

-- as a state of a semantics
abbrev pub with_start : Role → ℕ → System → (Tree → Plan) → Plan
with_start role k s next =
    loads Tree (λ texts. IsStartText s (text_at texts k)) (λ texts. IsRefusal role (IsFaultOf start_loading (no_start s) (text_at texts k))) next

-- as cuts and points between two semantics
abbrev pub with_points : Role → ℕ → System → System → (Points → Plan) → Plan
with_points role k left right next =
    loads Points (λ texts. IsPointsText left right (text_at texts k)) (λ texts. IsRefusal role (IsFaultOf points_loading (no_points left right) (text_at texts k))) next

-- the first point that has variables or conditions
pub record IsFirstOpen (points : List Point) (k : ℕ) (p : Point) : Type 0 where
  pub there : slice_get points k ≡ Some p
  pub not_ground : ¬ IsGroundPoint p
  pub ground_before : All IsGroundPoint (take k points)

-- the line is the refusal of the first point that has variables or conditions
pub record RefusesOpen (points : List Point) (line : List ℕ) : Type 0 where
  pub k : ℕ
  pub point : Point
  pub first : IsFirstOpen points k point
  pub is : line ≡ variables_line point.name

-- no point has variables or conditions, which is asked of no text
abbrev pub with_ground : List Point → Plan → Plan
with_ground points next = loads Unit (λ texts _. All IsGroundPoint points) (λ texts. RefusesOpen points) (λ _. next)

-- how a problem is judged for a number of steps: the status and the report of its verdict
pub data IsJudged (q : Problem) (steps : ℕ) : Status → List ℕ → Type 0 where
  equivalent : IsVerdict q steps kind.equivalent → IsJudged q steps Equivalent equivalent_line
  refines : (k : ℕ) (side : Side) (p : Point) → IsVerdict q steps (kind.refines k side) → IsPoint q k p → IsJudged q steps Refines (refines_lines p.name)
  unmatched : (k : ℕ) (p : Point) → IsVerdict q steps (kind.unmatched k) → IsPoint q k p → IsJudged q steps Unmatched (unmatched_lines p.name)
  not_grounded : (k : ℕ) (test : Test) (p : Point) → IsVerdict q steps (kind.ungrounded k test) → IsPoint q k p → IsJudged q steps NotGrounded (not_grounded_lines test p.name)

-- the problem of these parts is judged so
pub record AreJudged (left right : System) (lp rp : Tables) (points : Points) (steps : ℕ) (status : Status) (report : List ℕ) : Type 0 where
  pub problem : Problem
  pub is_left : problem.left ≡ left
  pub is_right : problem.right ≡ right
  pub is_left_program : problem.left_program ≡ lp
  pub is_right_program : problem.right_program ≡ rp
  pub is_points : problem.points ≡ points
  pub judged : IsJudged problem steps status report

-- what is done with the five texts of a check, in the order semantics, programs, points, left before right
abbrev pub check_plan : ℕ → Plan
check_plan steps =
    with_semantics LeftSemantics 0 (λ left.
    with_semantics RightSemantics 1 (λ right.
    with_program LeftProgram 2 left (λ lp.
    with_program RightProgram 3 right (λ rp.
    with_points PointsRole 4 left right (λ points.
    with_ground points.points (ends (AreJudged left right lp rp points steps)))))))

-- the report of the run by the first rules that takes so many steps from a state, or fewer to one without a step
pub record IsRunOf (s : System) (program : Tables) (start : Tree) (steps : ℕ) (status : Status) (report : List ℕ) : Type 0 where
  pub is_done : status ≡ Done
  pub made : StartedRun
  pub stopped : Bool
  pub follows : FirstRunFrom s program start steps made
  pub tells : IsTrue stopped ↔ IsStuckIn s program (end_of made)
  pub is : report ≡ run_report s made stopped

-- what is done with the three texts of a run
abbrev pub run_plan : ℕ → Plan
run_plan steps =
    with_semantics Semantics 0 (λ s.
    with_program Program 1 s (λ program.
    with_start Start 2 s (λ start.
    ends (IsRunOf s program start steps))))

abbrev pub plan_of : Task → Plan
plan_of (check steps) = check_plan steps
plan_of (run steps) = run_plan steps
