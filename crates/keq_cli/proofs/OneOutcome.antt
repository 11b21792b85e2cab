-- What was asked for has one outcome.
use Rattle.std.proofs.Common.{◌≡◌, inl, inr, ℕ, List, [], ◌∷◌, map, All, Option, None, Some, refl, sym, ap, ap₂, subst, ◌∙◌}
use Rattle.std.proofs.lemmas.Option.{same_Some}
use Rattle.rule_text.specs.declared.error.LoadFault.{LoadFault}
use Rattle.rule_text.specs.Faults.{IsFaultOf}
use Rattle.rule_text.proofs.OneEnd.{one_fault, no_value_and_fault}
use Rattle.sort_term.specs.declared.points.Point.{Point}
use Rattle.sort_term.specs.System.{System}
use Rattle.semantics_load.specs.Declaring.{nothing}
use Rattle.semantics_load.specs.Loads.{semantics_loading}
use Rattle.semantics_load.specs.Text.{IsSemanticsText}
use Rattle.semantics_load.proofs.Drafts.{text_makes_semantics}
use Rattle.semantics_load.proofs.OneText.{one_semantics, one_text_fault, no_semantics_and_fault}
use Rattle.program_text.specs.Rows.{no_rows, program_loading}
use Rattle.program_text.specs.States.{no_start, start_loading}
use Rattle.program_text.specs.Text.{IsProgramText, IsStartText}
use Rattle.program_text.proofs.Programs.{row_adds_one, start_adds_one, one_program, one_state}
use Rattle.sync_points.specs.Pieces.{no_points}
use Rattle.sync_points.specs.Loads.{points_loading}
use Rattle.sync_points.specs.Text.{IsPointsText}
use Rattle.sync_points.proofs.Drafts.{one_points, one_points_fault, no_points_and_fault}
use Rattle.ground_judge.specs.Ground.{IsGroundPoint}
use Rattle.report_text.specs.Refusals.{refusal_of}
use Rattle.report_text.specs.declared.role.Role.{Role}
use Rattle.report_text.specs.declared.role.Role.TheVariants.{LeftSemantics, RightSemantics, LeftProgram, RightProgram, Points as PointsRole, Semantics, Program, Start}
use Rattle.keq_cli.specs.Outside.{FileMap}
use Rattle.keq_cli.specs.Words.{Task, check, run, Command}
use Rattle.keq_cli.specs.Plan.{Texts, Plan, loads, ends, Ends, AtMostOne, IsDecided, HasOneEnd, AreDecided}
use Rattle.keq_cli.specs.Reports.{variables_line}
use Rattle.keq_cli.specs.Tasks.{IsRefusal, RefusesOpen, plan_of}
use Rattle.keq_cli.specs.Outcome.{usage, planned, Tells, HasOneOutcome}
use Rattle.keq_cli.proofs.FirstOpen.{no_open, same_open}
use Rattle.keq_cli.proofs.OneRun.{one_run_end}
use Rattle.keq_cli.proofs.OneVerdict.{one_judged}

-- a plan whose steps and end are decided has one end
one_end : (p : Plan) (texts : Texts) → AreDecided p texts → HasOneEnd (Ends p texts)
one_end (loads A Makes Refuses next) texts d s t x y (inl a) (inl b) = (a.0 ∙ sym b.0, d.0.one_line x y a.1 b.1)
one_end (loads A Makes Refuses next) texts d s t x y (inl a) (inr b) = absurd (d.0.not_both b.0 x b.1 a.1)
one_end (loads A Makes Refuses next) texts d s t x y (inr a) (inl b) = absurd (d.0.not_both a.0 y a.1 b.1)
one_end (loads A Makes Refuses next) texts d s t x y (inr a) (inr b) =
    one_end (next a.0) texts (d.1 a.0 a.1) s t x y a.2 (subst (λ made. Ends (next made) texts t y) (d.0.one_value b.0 a.0 b.1 a.1) b.2)
one_end (ends End) texts d s t x y a b = d s t x y a b

-- a step that loads a text is decided where the text has one value or one first fault
decided : {A : Type 0} (Makes : A → Type 0) (role : Role) (IsFault : LoadFault → Type 0) → AtMostOne Makes → AtMostOne IsFault → ((made : A) (fault : LoadFault) → Makes made → ¬ IsFault fault) → IsDecided Makes (IsRefusal role IsFault)
decided Makes role IsFault value fault never = record {
  one_value = value;
  one_line = λ x y a b. a.is ∙ ap (refusal_of role) (fault a.fault b.fault a.first b.first) ∙ sym b.is;
  not_both = λ made line makes refuses. never made refuses.fault makes refuses.first;
}

module _ (role : Role) (bytes : List ℕ) where
  decided_semantics : IsDecided (IsSemanticsText bytes) (IsRefusal role (IsFaultOf semantics_loading nothing bytes))
  decided_semantics = decided (IsSemanticsText bytes) role _ (one_semantics bytes) (one_text_fault bytes) (no_semantics_and_fault bytes)

  decided_program : (s : System) → IsDecided (IsProgramText s bytes) (IsRefusal role (IsFaultOf program_loading (no_rows s) bytes))
  decided_program s =
      decided (IsProgramText s bytes) role _ (one_program s bytes) (one_fault program_loading row_adds_one (no_rows s) bytes)
      (λ p fault text. no_value_and_fault program_loading row_adds_one (no_rows s) bytes (record { semantics = s; rows = p }) fault text.whole)

  decided_start : (s : System) → IsDecided (IsStartText s bytes) (IsRefusal role (IsFaultOf start_loading (no_start s) bytes))
  decided_start s =
      decided (IsStartText s bytes) role _ (one_state s bytes) (one_fault start_loading start_adds_one (no_start s) bytes)
      (λ t fault text. no_value_and_fault start_loading start_adds_one (no_start s) bytes (record { semantics = s; tree = Some t }) fault text.whole)

  decided_points : (left right : System) → IsDecided (IsPointsText left right bytes) (IsRefusal role (IsFaultOf points_loading (no_points left right) bytes))
  decided_points left right = decided (IsPointsText left right bytes) role _ (one_points left right bytes) (one_points_fault left right bytes) (no_points_and_fault left right bytes)

-- points are all ground, or have one first that is not
decided_ground : (points : List Point) → IsDecided {A = Unit} (λ _. All IsGroundPoint points) (RefusesOpen points)
decided_ground points = record {
  one_value = λ x y a b. refl;
  one_line = λ x y a b. a.is ∙ ap (λ (p : Point). variables_line p.name) (same_open points a.k b.k a.point b.point a.first b.first) ∙ sym b.is;
  not_both = λ made line ground refuses. no_open points refuses.k refuses.point ground refuses.first;
}

task_decided : (task : Task) (texts : Texts) → AreDecided (plan_of task) texts
task_decided (check steps) texts = (
  decided_semantics LeftSemantics _,
  λ left is_left. (
    decided_semantics RightSemantics _,
    λ right is_right. (
      decided_program LeftProgram _ left,
      λ lp is_lp. (
        decided_program RightProgram _ right,
        λ rp is_rp. (
          decided_points PointsRole _ left right,
          λ points is_points.
              (decided_ground points.points, λ _ ground. one_judged left right lp rp points steps),
        ),
      ),
    ),
  ),
)
task_decided (run steps) texts = (
  decided_semantics Semantics _,
  λ s is_s. (
    decided_program Program _ s,
    λ program is_program.
        (decided_start Start _ s, λ start is_start. one_run_end s (text_makes_semantics _ s is_s) program start steps),
  ),
)

-- the texts that are held under names are told by these
same_texts : (t u : Texts) → map Some t ≡ map Some u → t ≡ u
same_texts [] [] e = refl
same_texts [] (y ∷ u) e = absurd cc
same_texts (x ∷ t) [] e = absurd cc
same_texts (x ∷ t) (y ∷ u) e = ap₂ (λ (z : List ℕ) (zs : Texts). z ∷ zs) (same_Some x y cc) (same_texts t u cc)

pub one_outcome : (held : Option FileMap) (command : Option Command) → Tells held command → HasOneOutcome held command
one_outcome held _ tells _ _ _ _ usage usage = (refl, refl)
one_outcome None _ tells _ _ _ _ (planned command t s x a e) (planned _ u r y b f) = absurd cc
one_outcome (Some files) _ tells _ _ _ _ (planned command t s x a e) (planned _ u r y b f) =
    one_end (plan_of command.task) t (task_decided command.task t) s r x y e
    (subst (λ (texts : Texts). Ends (plan_of command.task) texts r y) (same_texts u t (sym b.told ∙ a.told)) f)
