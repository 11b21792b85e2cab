use Rattle.std.proofs.Common.{◌≡◌, drop}
use Rattle.std.specs.Ordering.{nat_cmp}
use Rattle.std.specs.Cmp.Lexicographic.{slice_cmp}
use Rattle.std.specs.FinMap.{get, find}
use Rattle.keq_cli.specs.Memory.{file_map, named}
use Rattle.keq_cli.proofs.memory_shelf.find_text.Given as goal

-- what is found in the rest is what the map holds
abbrev pub invariant-loop-file : goal.invariant-loop-file
invariant-loop-file l = get (file_map l.files) l.name ≡ find (slice_cmp nat_cmp) l.name (named (drop l.file-index l.files))
