-- What stops a command before its end.
use Rattle.std.specs.Prelude.{◌≡◌, ℕ, List, ⊤}
use Rattle.rule_text.specs.declared.error.LoadError.{LoadError}
use Rattle.rule_text.specs.declared.error.LoadError.TheVariants as error
use Rattle.report_text.specs.Refusals.{refusal_of}
use Rattle.report_text.specs.declared.role.Role.{Role}
use Rattle.keq_cli.specs.Plan.{Texts, Ends}
use Rattle.keq_cli.specs.Tasks.{check_plan}
use Rattle.keq_cli.specs.declared.loading.Stopped.{Stopped}
use Rattle.keq_cli.specs.declared.loading.Stopped.TheVariants.{Refused, NoMemory}
use Rattle.keq_cli.specs.declared.status.Status.TheVariants as Status

-- a command stops with a line that has P, or there was no memory
abbrev pub StopsWith : (List ℕ → Type 0) → Stopped → Type 0
StopsWith P (Refused line) = P line
StopsWith P NoMemory = ⊤

-- whatever the number of steps, a check of these texts ends with the line, or there was no memory
abbrev pub StopsCheck : Texts → Stopped → Type 0
StopsCheck texts stopped = (steps : ℕ) → StopsWith (Ends (check_plan steps) texts Status.Refused) stopped

-- the line is the refusal of the text with this role for the fault of an error
abbrev pub IsErrorLine : Role → LoadError → List ℕ → Type 0
IsErrorLine role (error.Fault fault) line = line ≡ refusal_of role fault
IsErrorLine role error.NoMemory line = ⊥
