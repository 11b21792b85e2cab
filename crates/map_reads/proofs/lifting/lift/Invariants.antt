use Rattle.std.proofs.Common.{◌≡◌, take}
use Rattle.map_reads.specs.Lifted.{lifted_from}
use Rattle.map_reads.proofs.lifting.lift.Given as goal

-- the first variables have their values
abbrev pub invariant-loop-variable : goal.invariant-loop-variable
invariant-loop-variable l = l.made ≡ lifted_from l.reads l.words 0 (take l.variable l.reads.sorts)
