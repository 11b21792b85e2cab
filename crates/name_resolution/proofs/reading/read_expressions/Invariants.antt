use Rattle.std.proofs.Common.{◌≡◌, Some, take}
use Rattle.name_resolution.specs.Known.{vocabulary_of}
use Rattle.name_resolution.specs.Reads.{expressions_of}
use Rattle.name_resolution.proofs.reading.read_expressions.Given as goal

-- the expressions so far
abbrev pub invariant-loop-raw : goal.invariant-loop-raw
invariant-loop-raw l = expressions_of (vocabulary_of l.known) l.variables (take l.raw-index l.raws) ≡ Some l.exprs
