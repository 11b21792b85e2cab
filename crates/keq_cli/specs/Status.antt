-- How a call ends.
use Rattle.std.specs.Prelude.{ℕ, ⊤}
use Rattle.keq_cli.specs.declared.status.Status.{Status}
use Rattle.keq_cli.specs.declared.status.Status.TheVariants.{Equivalent, Refines, Unmatched, NotGrounded, Refused, ReadFault, WriteFault, NoMemory, Usage, Done}

-- the number that the process ends with
abbrev pub code_of : Status → ℕ
code_of Equivalent = 0
code_of Refines = 1
code_of Unmatched = 2
code_of NotGrounded = 3
code_of Refused = 4
code_of ReadFault = 5
code_of WriteFault = 6
code_of NoMemory = 7
code_of Usage = 8
code_of Done = 0

-- the call came to its end: no fetch and no put failed, and memory was found
abbrev pub IsAnswer : Status → Type 0
IsAnswer ReadFault = ⊥
IsAnswer WriteFault = ⊥
IsAnswer NoMemory = ⊥
IsAnswer _ = ⊤

-- a report was put, whole or in part: no fetch failed, and memory was found
abbrev pub HasReport : Status → Type 0
HasReport ReadFault = ⊥
HasReport NoMemory = ⊥
HasReport _ = ⊤
