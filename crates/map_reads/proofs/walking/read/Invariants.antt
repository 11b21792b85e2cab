use Rattle.std.proofs.Common.{length, reverse}
use Rattle.map_reads.proofs.Walks.{IsClimb}
use Rattle.map_reads.proofs.walking.read.Given as goal

-- what the map of some line of the chain has at the key was found
abbrev pub invariant-loop-put : goal.invariant-loop-put
invariant-loop-put g l = IsClimb (g.D.Domain.look l.d) l.fn.draft l.draft l.lines l.places l.map l.place (reverse l.chain.puts.items) l.found

abbrev pub decreases-loop-put : goal.decreases-loop-put
decreases-loop-put g l = length l.chain.puts.items
