use Rattle.std.proofs.Common.{take}
use Rattle.map_reads.specs.Placing.{ArePlaced}
use Rattle.map_reads.proofs.walking.places_of.Given as goal

-- the first nodes have their places
abbrev pub invariant-loop-node : goal.invariant-loop-node
invariant-loop-node g l = ArePlaced (g.D.Domain.look l.d) l.fn.draft l.draft (take l.node-index l.nodes) l.found
