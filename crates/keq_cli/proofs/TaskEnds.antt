-- How a task ends or stops, by what its texts make.
use Rattle.std.proofs.Common.{inl, inr, ℕ, List, All, Result, Ok, Err, IfErr, IfOk, OnOk, refl}
use Rattle.std.proofs.lemmas.Result.{IfOk-weaker, IfErr-weaker}
use Rattle.rule_text.specs.Faults.{IsFaultOf}
use Rattle.sort_term.specs.declared.points.Points.{Points}
use Rattle.sort_term.specs.declared.problem.Problem.{Problem}
use Rattle.sort_term.specs.Step.{Tables}
use Rattle.sort_term.specs.System.{System}
use Rattle.sort_term.specs.Tree.{Tree}
use Rattle.semantics_load.specs.Declaring.{nothing}
use Rattle.semantics_load.specs.Loads.{semantics_loading}
use Rattle.semantics_load.specs.Text.{IsSemanticsText}
use Rattle.program_text.specs.Rows.{no_rows, program_loading}
use Rattle.program_text.specs.States.{no_start, start_loading}
use Rattle.program_text.specs.Text.{IsProgramText, IsStartText}
use Rattle.sync_points.specs.Pieces.{no_points}
use Rattle.sync_points.specs.Loads.{points_loading}
use Rattle.sync_points.specs.Text.{IsPointsText}
use Rattle.ground_judge.specs.Ground.{IsGroundPoint}
use Rattle.report_text.specs.declared.role.Role.TheVariants.{LeftSemantics, RightSemantics, LeftProgram, RightProgram, Points as PointsRole, Semantics, Program, Start}
use Rattle.keq_cli.specs.Plan.{Texts, Ends}
use Rattle.keq_cli.specs.Stopping.{StopsWith}
use Rattle.keq_cli.specs.Made.{AreMade}
use Rattle.keq_cli.specs.Tasks.{text_at, IsRefusal, RefusesOpen, IsJudged, AreJudged, IsRunOf, check_plan, run_plan}
use Rattle.keq_cli.specs.declared.answer.Answer.{Answer}
use Rattle.keq_cli.specs.declared.loading.Stopped.{Stopped}
use Rattle.keq_cli.specs.declared.status.Status.{Status}
use Rattle.keq_cli.specs.declared.status.Status.TheVariants.{Refused}
use Rattle.keq_cli.proofs.Stops.{stops_weaker}

-- what holds where there is a value, and what holds of it
both_of : {X E : Type 0} (P : Type 0) (Q : X → Type 0) (r : Result X E) → OnOk r P → IfOk r Q → IfOk r (λ x. P × Q x)
both_of P Q (Ok x) p q = (p, q)
both_of P Q (Err e) p q = tt

-- a check stops at its first text that does not load, or at an open point, and else it is judged
module _ (texts : Texts) (steps : ℕ) where
  pub stops_left : (stopped : Stopped) → StopsWith (IsRefusal LeftSemantics (IsFaultOf semantics_loading nothing (text_at texts 0))) stopped → StopsWith (Ends (check_plan steps) texts Refused) stopped
  stops_left = stops_weaker (IsRefusal LeftSemantics (IsFaultOf semantics_loading nothing (text_at texts 0))) (Ends (check_plan steps) texts Refused) (λ line r. inl (refl, r))

  module _ (left : System) (is_left : IsSemanticsText (text_at texts 0) left) where
    pub stops_right : (stopped : Stopped) → StopsWith (IsRefusal RightSemantics (IsFaultOf semantics_loading nothing (text_at texts 1))) stopped → StopsWith (Ends (check_plan steps) texts Refused) stopped
    stops_right = stops_weaker (IsRefusal RightSemantics (IsFaultOf semantics_loading nothing (text_at texts 1))) (Ends (check_plan steps) texts Refused) (λ line r. inr (left, is_left, inl (refl, r)))

    module _ (right : System) (is_right : IsSemanticsText (text_at texts 1) right) where
      pub stops_left_program : (stopped : Stopped) → StopsWith (IsRefusal LeftProgram (IsFaultOf program_loading (no_rows left) (text_at texts 2))) stopped → StopsWith (Ends (check_plan steps) texts Refused) stopped
      stops_left_program = stops_weaker (IsRefusal LeftProgram (IsFaultOf program_loading (no_rows left) (text_at texts 2))) (Ends (check_plan steps) texts Refused) (λ line r. inr (left, is_left, inr (right, is_right, inl (refl, r))))

      module _ (lp : Tables) (is_lp : IsProgramText left (text_at texts 2) lp) where
        pub stops_right_program : (stopped : Stopped) → StopsWith (IsRefusal RightProgram (IsFaultOf program_loading (no_rows right) (text_at texts 3))) stopped → StopsWith (Ends (check_plan steps) texts Refused) stopped
        stops_right_program = stops_weaker (IsRefusal RightProgram (IsFaultOf program_loading (no_rows right) (text_at texts 3))) (Ends (check_plan steps) texts Refused) (λ line r. inr (left, is_left, inr (right, is_right, inr (lp, is_lp, inl (refl, r)))))

        module _ (rp : Tables) (is_rp : IsProgramText right (text_at texts 3) rp) where
          pub stops_points : (stopped : Stopped) → StopsWith (IsRefusal PointsRole (IsFaultOf points_loading (no_points left right) (text_at texts 4))) stopped → StopsWith (Ends (check_plan steps) texts Refused) stopped
          stops_points = stops_weaker (IsRefusal PointsRole (IsFaultOf points_loading (no_points left right) (text_at texts 4))) (Ends (check_plan steps) texts Refused) (λ line r. inr (left, is_left, inr (right, is_right, inr (lp, is_lp, inr (rp, is_rp, inl (refl, r))))))

          module _ (points : Points) (is_points : IsPointsText left right (text_at texts 4) points) where
            pub stops_open : (stopped : Stopped) → StopsWith (RefusesOpen points.points) stopped → StopsWith (Ends (check_plan steps) texts Refused) stopped
            stops_open = stops_weaker (RefusesOpen points.points) (Ends (check_plan steps) texts Refused) (λ line r. inr (left, is_left, inr (right, is_right, inr (lp, is_lp, inr (rp, is_rp, inr (points, is_points, inl (refl, r)))))))

            pub ends_judged : (status : Status) (report : List ℕ) → All IsGroundPoint points.points → AreJudged left right lp rp points steps status report → Ends (check_plan steps) texts status report
            ends_judged status report ground judged = inr (left, is_left, inr (right, is_right, inr (lp, is_lp, inr (rp, is_rp, inr (points, is_points, inr (tt, ground, judged))))))

-- how a check ends by what its problem ends with
module _ (texts : Texts) (steps : ℕ) (q : Problem) (made : AreMade texts q.left q.right q.left_program q.right_program q.points) (r : Result Answer Stopped) where
  pub problem_ends : OnOk r (All IsGroundPoint q.points.points) → IfOk r (λ answer. IsJudged q steps answer.status answer.report) → IfOk r (λ answer. Ends (check_plan steps) texts answer.status answer.report)
  problem_ends ground judged =
      IfOk-weaker r _ _ (λ answer both. ends_judged texts steps q.left made.semantics.left_text q.right made.semantics.right_text q.left_program made.programs.left_text q.right_program made.programs.right_text q.points made.points_text answer.status answer.report both.0 (record { problem = q; is_left = refl; is_right = refl; is_left_program = refl; is_right_program = refl; is_points = refl; judged = both.1 })) (both_of _ _ r ground judged)

  pub problem_stops : IfErr r (StopsWith (RefusesOpen q.points.points)) → IfErr r (StopsWith (Ends (check_plan steps) texts Refused))
  problem_stops stops = IfErr-weaker r _ _ (stops_open texts steps q.left made.semantics.left_text q.right made.semantics.right_text q.left_program made.programs.left_text q.right_program made.programs.right_text q.points made.points_text) stops

-- a run stops at its first text that does not load, and else it is done
module _ (texts : Texts) (steps : ℕ) where
  pub stops_semantics : (stopped : Stopped) → StopsWith (IsRefusal Semantics (IsFaultOf semantics_loading nothing (text_at texts 0))) stopped → StopsWith (Ends (run_plan steps) texts Refused) stopped
  stops_semantics = stops_weaker (IsRefusal Semantics (IsFaultOf semantics_loading nothing (text_at texts 0))) (Ends (run_plan steps) texts Refused) (λ line r. inl (refl, r))

  module _ (s : System) (is_s : IsSemanticsText (text_at texts 0) s) where
    pub stops_program : (stopped : Stopped) → StopsWith (IsRefusal Program (IsFaultOf program_loading (no_rows s) (text_at texts 1))) stopped → StopsWith (Ends (run_plan steps) texts Refused) stopped
    stops_program = stops_weaker (IsRefusal Program (IsFaultOf program_loading (no_rows s) (text_at texts 1))) (Ends (run_plan steps) texts Refused) (λ line r. inr (s, is_s, inl (refl, r)))

    module _ (program : Tables) (is_program : IsProgramText s (text_at texts 1) program) where
      pub stops_start : (stopped : Stopped) → StopsWith (IsRefusal Start (IsFaultOf start_loading (no_start s) (text_at texts 2))) stopped → StopsWith (Ends (run_plan steps) texts Refused) stopped
      stops_start = stops_weaker (IsRefusal Start (IsFaultOf start_loading (no_start s) (text_at texts 2))) (Ends (run_plan steps) texts Refused) (λ line r. inr (s, is_s, inr (program, is_program, inl (refl, r))))

      pub ends_done : (start : Tree) → IsStartText s (text_at texts 2) start → (status : Status) (report : List ℕ) → IsRunOf s program start steps status report → Ends (run_plan steps) texts status report
      ends_done start is_start status report done = inr (s, is_s, inr (program, is_program, inr (start, is_start, done)))
