use Rattle.std.proofs.Common.{◌≡◌, true, map, take}
use Rattle.name_resolution.specs.Known.{vocabulary_of}
use Rattle.name_resolution.specs.Within.{asked, are_within_places}
use Rattle.name_resolution.proofs.within.+within.Given as goal

-- the arguments so far keep the limits
abbrev pub invariant-are_within-loop-i : goal.invariant-are_within-loop-i
invariant-are_within-loop-i l = are_within_places l.sorts (map (asked (vocabulary_of l.known)) (take l.i l.raws)) ≡ true
