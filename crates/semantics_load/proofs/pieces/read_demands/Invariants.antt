use Rattle.std.proofs.Common.{◌≡◌, Some, take}
use Rattle.name_resolution.specs.Known.{vocabulary_of}
use Rattle.semantics_load.specs.Pieces.{demands_of}
use Rattle.semantics_load.proofs.pieces.read_demands.Given as goal

-- the demands so far
abbrev pub invariant-loop-raw : goal.invariant-loop-raw
invariant-loop-raw l = demands_of (vocabulary_of l.known) l.names (take l.raw-index l.raws) ≡ Some l.demands
