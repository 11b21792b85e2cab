use Rattle.std.proofs.Common.{take}
use Rattle.sort_term.specs.Names.{AreDistinct}
use Rattle.sort_term.proofs.named.are_distinct.Given as goal

abbrev pub invariant-loop-i : goal.invariant-loop-i
invariant-loop-i g l = AreDistinct g.T.Named.name_of (take l.i l.items)
