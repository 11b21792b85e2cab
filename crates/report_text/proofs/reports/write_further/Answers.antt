use Rattle.std.proofs.Common.{◌≡◌, ◌⊎◌, inl, inr, ◌++◌, List, ℕ, sym, ap, ◌∙◌}
use Rattle.sort_term.specs.declared.problem.Problem.{Problem}
use Rattle.ground_step.specs.declared.verdict.Failure.{Failure}
use Rattle.ground_step.specs.declared.verdict.Verdict.{Verdict}
use Rattle.ground_step.specs.declared.verdict.Verdict.TheVariants.{Refines, Unmatched, Outside, Long, Halted}
use Rattle.report_text.specs.Lines.{lines_of}
use Rattle.report_text.specs.Reports.{failure_lines, further_lines}
use Rattle.report_text.proofs.reports.write_further.Goals as goal

-- behind the first line of a verdict with a failure stand the lines of the failure
of_failure : (q : Problem) (f : Failure) (v : Verdict) → (v ≡ Refines f) ⊎ (v ≡ Unmatched f) ⊎ (v ≡ Outside f) ⊎ (v ≡ Long f) ⊎ (v ≡ Halted f) → failure_lines q f ≡ further_lines q v
of_failure q f v (inl e) = ap (further_lines q) (sym e)
of_failure q f v (inr (inl e)) = ap (further_lines q) (sym e)
of_failure q f v (inr (inr (inl e))) = ap (further_lines q) (sym e)
of_failure q f v (inr (inr (inr (inl e)))) = ap (further_lines q) (sym e)
of_failure q f v (inr (inr (inr (inr e)))) = ap (further_lines q) (sym e)

pub returns-in_ok-write_failure-in-Refines : goal.returns-in_ok-write_failure-in-Refines
returns-in_ok-write_failure-in-Refines c =
    c.in_ok-write_failure-in-Refines.ensures ∙ ap (λ (lines : List (List ℕ)). c.args.text.now.items ++ lines_of lines) (of_failure c.args.problem.now c.in-Refines.failure c.args.verdict.now c.in-Refines.is)
