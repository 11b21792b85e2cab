use Rattle.map_reads.proofs.Placed.{IsWalked}
use Rattle.map_reads.proofs.walking.place_of.Given as goal

-- the first lines have their places
abbrev pub invariant-loop-line : goal.invariant-loop-line
invariant-loop-line g l = IsWalked (g.D.Domain.look l.d) l.fn.draft l.draft l.lines.items l.places.items l._line
