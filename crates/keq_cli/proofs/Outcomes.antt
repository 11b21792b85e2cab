-- What is true of an outcome.
use Rattle.std.proofs.Common.{◌≡◌, ◌≢◌, ◌⊎◌, inl, inr, ℕ, List, Option, None, Some, sym, subst, ◌∙◌}
use Rattle.sort_term.specs.declared.problem.Problem.{Problem}
use Rattle.keq_cli.specs.Outside.{FileMap}
use Rattle.keq_cli.specs.Words.{Task, check, run, Command}
use Rattle.keq_cli.specs.Status.{IsAnswer}
use Rattle.keq_cli.specs.Plan.{Texts, Plan, loads, ends, Ends}
use Rattle.keq_cli.specs.Reports.{bad_words_line}
use Rattle.keq_cli.specs.Tasks.{IsJudged, equivalent, refines, unmatched, not_grounded, plan_of}
use Rattle.keq_cli.specs.Outcome.{Outcome, usage, planned}
use Rattle.keq_cli.specs.declared.status.Status.{Status}
use Rattle.keq_cli.specs.declared.status.Status.TheVariants.{Usage, Refused, ReadFault, WriteFault, NoMemory, Done}

-- an answer is the status that was wanted
pub wanted : {status aim : Status} → (status ≡ aim) ⊎ (status ≡ WriteFault) → IsAnswer status → status ≡ aim
wanted (inl same) answer = same
wanted (inr failed) answer = absurd (subst IsAnswer failed answer)

-- an answer that is not that of words of no form
IsEnd : Status → Type 0
IsEnd status = IsAnswer status × (status ≢ Usage)

refused_end : IsEnd Refused
unfolding IsEnd
refused_end = (tt, λ e. cc)

done_end : IsEnd Done
unfolding IsEnd
done_end = (tt, λ e. cc)

judged_end : (q : Problem) (steps : ℕ) (status : Status) (report : List ℕ) → IsJudged q steps status report → IsEnd status
unfolding IsEnd
judged_end q steps _ _ (equivalent v) = (tt, λ e. cc)
judged_end q steps _ _ (refines k side p v is) = (tt, λ e. cc)
judged_end q steps _ _ (unmatched k p v is) = (tt, λ e. cc)
judged_end q steps _ _ (not_grounded k test p v is) = (tt, λ e. cc)

-- a plan ends with nothing else
EndsWell : Plan → Type 0
EndsWell (loads A Makes Refuses next) = (made : A) → EndsWell (next made)
EndsWell (ends End) = (status : Status) (report : List ℕ) → End status report → IsEnd status

ends_well : (p : Plan) → EndsWell p → (texts : Texts) (status : Status) (report : List ℕ) → Ends p texts status report → IsEnd status
unfolding EndsWell
ends_well (loads A Makes Refuses next) well texts status report (inl refused) = subst IsEnd (sym refused.0) refused_end
ends_well (loads A Makes Refuses next) well texts status report (inr made) = ends_well (next made.0) (well made.0) texts status report made.2
ends_well (ends End) well texts status report e = well status report e

task_ends_well : (task : Task) → EndsWell (plan_of task)
unfolding EndsWell
task_ends_well (check steps) = λ left right lp rp points _ status report e. judged_end e.problem steps status report e.judged
task_ends_well (run steps) = λ s program start status report e. subst IsEnd (sym e.is_done) done_end

-- the end of a task is an answer, and not that of words of no form
pub task_answers : (task : Task) (texts : Texts) (status : Status) (report : List ℕ) → Ends (plan_of task) texts status report → IsAnswer status × (status ≢ Usage)
unfolding IsEnd
task_answers task texts status report e = ends_well (plan_of task) (task_ends_well task) texts status report e

pub command_answers : (held : Option FileMap) (command : Command) (status : Status) (report : List ℕ) → Outcome held (Some command) status report → IsAnswer status × (status ≢ Usage)
command_answers held _ _ _ (planned command texts status report may e) = task_answers command.task texts status report e

-- what a command puts is a report: its status is no fault before the put, and not that of words of no form
pub put_answer : {status aim : Status} → IsAnswer aim × (aim ≢ Usage) → (status ≡ aim) ⊎ (status ≡ WriteFault) → (status ≢ Usage) × (status ≢ ReadFault) × (status ≢ NoMemory)
put_answer answers (inl same) = (λ e. answers.1 (sym same ∙ e), λ e. subst IsAnswer (sym same ∙ e) answers.0, λ e. subst IsAnswer (sym same ∙ e) answers.0)
put_answer answers (inr failed) = (λ e. cc, λ e. cc, λ e. cc)

-- words of no form have the one line
pub usage_outcome : (held : Option FileMap) (command : Option Command) → None ≡ command → Outcome held command Usage bad_words_line
usage_outcome held command none = subst (λ (c : Option Command). Outcome held c Usage bad_words_line) none usage
