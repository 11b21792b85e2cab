-- What parsed words ask for.
use Rattle.std.specs.Prelude.{ℕ, ◌≤◌, List, map, String}
use Rattle.std.specs.declared.alloc.Global.{Global}
use Rattle.std.specs.String.{string_bytes}
use Rattle.keq_cli.specs.Words.{Ask, text_ask, Task, check, run, Command}
use Rattle.keq_cli.specs.declared.words.Command.{Command as CommandOf}
use Rattle.keq_cli.specs.declared.words.Task.{Task as TaskOf}
use Rattle.keq_cli.specs.declared.words.Task.TheVariants.{Check, Run}

-- the files with these names, as those of texts
abbrev pub asks_of : List (String Global) → List Ask
asks_of names = map text_ask (map string_bytes names)

abbrev pub task_view : TaskOf → Task
task_view (Check steps) = check steps
task_view (Run steps) = run steps

-- what a command asks for
abbrev pub command_view : CommandOf → Command
command_view c = record { asks = asks_of c.names.now; task = task_view c.task }

-- the number of steps of a task is from 1 to 10,000
abbrev pub steps_of : TaskOf → ℕ
steps_of (Check steps) = steps
steps_of (Run steps) = steps

abbrev pub IsBounded : TaskOf → Type 0
IsBounded task = (1 ≤ steps_of task) × (steps_of task ≤ 10000)
