use Rattle.std.proofs.Common.{◌≡◌, Some, map, take}
use Rattle.name_resolution.specs.Known.{vocabulary_of}
use Rattle.name_resolution.specs.Reads.{arguments, tree_says}
use Rattle.name_resolution.proofs.reading.+reading.Given as goal

-- the arguments so far
abbrev pub invariant-read_arguments-loop-i : goal.invariant-read_arguments-loop-i
invariant-read_arguments-loop-i g l = arguments g.X.Readable.reading l.sorts (map (tree_says g.X.Readable.reading (vocabulary_of l.known) l.variables) (take l.i l.raws)) ≡ Some l.args
