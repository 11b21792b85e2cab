use Rattle.std.proofs.Common.{◌≡◌, Some, map, take}
use Rattle.sort_term.specs.Sorted.{all_there}
use Rattle.name_resolution.specs.Known.{vocabulary_of, sort_of}
use Rattle.semantics_load.proofs.pieces.argument_sorts.Given as goal

-- the sorts so far
abbrev pub invariant-loop-raw : goal.invariant-loop-raw
invariant-loop-raw l = all_there (map (sort_of (vocabulary_of l.known)) (take l.raw-index l.raws)) ≡ Some l.sorts
