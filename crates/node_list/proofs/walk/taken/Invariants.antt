use Rattle.std.proofs.Common.{◌≡◌, reverse, take, drop}
use Rattle.node_list.proofs.walk.taken.Given as goal

-- so many places were taken
abbrev pub invariant-loop-turn : goal.invariant-loop-turn
invariant-loop-turn l = (l.places ≡ take l._turn (reverse l.fn.found.items)) × (reverse l.found.items ≡ drop l._turn (reverse l.fn.found.items))
