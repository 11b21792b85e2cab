use Rattle.std.proofs.Common.{◌≡◌, Some, take}
use Rattle.name_resolution.specs.Known.{vocabulary_of}
use Rattle.name_resolution.specs.Reads.{variables_of}
use Rattle.name_resolution.proofs.declared_variables.variables.Given as goal

-- the variables so far
abbrev pub invariant-loop-raw : goal.invariant-loop-raw
invariant-loop-raw l = variables_of (vocabulary_of l.known) (take l.raw-index l.raws) ≡ Some l.vars
