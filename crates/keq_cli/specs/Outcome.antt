-- How what was asked for ends, and what is reported.
use Rattle.std.specs.Prelude.{◌≡◌, ℕ, List, Option, None, Some, IsSome, ⊤}
use Rattle.keq_cli.specs.Outside.{FileMap, IsTaken, IsFrontTaken}
use Rattle.keq_cli.specs.Words.{Command}
use Rattle.keq_cli.specs.Plan.{Texts, Ends}
use Rattle.keq_cli.specs.Tasks.{plan_of}
use Rattle.keq_cli.specs.Texts.{MayHold}
use Rattle.keq_cli.specs.Reports.{bad_words_line}
use Rattle.keq_cli.specs.declared.answer.Answer.{Answer}
use Rattle.keq_cli.specs.declared.status.Status.{Status}
use Rattle.keq_cli.specs.declared.status.Status.TheVariants.{Usage}

-- how a call of a command may end, with its report; None stands for words of no form.
-- A command ends as its plan does on some texts; where the shelf tells what it holds, these are the texts under the names
pub data Outcome (held : Option FileMap) : Option Command → Status → List ℕ → Type 0 where
  usage : Outcome held None Usage bad_words_line
  planned : (command : Command) (texts : Texts) (status : Status) (report : List ℕ) → MayHold held command.asks texts → Ends (plan_of command.task) texts status report → Outcome held (Some command) status report

-- the answer is an outcome
abbrev pub IsOutcome : Option FileMap → Option Command → Answer → Type 0
IsOutcome held command answer = Outcome held command answer.status answer.report

-- there is at most one outcome: one status and one report
abbrev pub HasOneOutcome : Option FileMap → Option Command → Type 0
HasOneOutcome held command = (s t : Status) (x y : List ℕ) → Outcome held command s x → Outcome held command t y → (s ≡ t) × (x ≡ y)

-- the shelf tells what it holds, or no file is named
abbrev pub Tells : Option FileMap → Option Command → Type 0
Tells held None = ⊤
Tells held (Some command) = IsSome held

-- the whole report of an outcome with this status was taken
abbrev pub IsReported : Option FileMap → Option Command → Status → Option (List ℕ) → Option (List ℕ) → Type 0
IsReported held command status before now = (report : List ℕ) × Outcome held command status report × IsTaken before report now

-- a front of the report of an outcome was taken
abbrev pub IsFrontReported : Option FileMap → Option Command → Option (List ℕ) → Option (List ℕ) → Type 0
IsFrontReported held command before now = (status : Status) × ((report : List ℕ) × (Outcome held command status report × IsFrontTaken before report now))
