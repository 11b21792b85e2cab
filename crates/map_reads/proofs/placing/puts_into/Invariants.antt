use Rattle.std.proofs.Common.{◌<◌, length, reverse}
use Rattle.map_reads.specs.Placing.{LeadsUp}
use Rattle.map_reads.proofs.placing.puts_into.Given as goal

-- what was put so far leads up to the map
abbrev pub invariant-loop-base : goal.invariant-loop-base
invariant-loop-base l = record { within : l.base < length l.places; leads : LeadsUp l.places l.map (reverse l.puts.items) l.base }

abbrev pub decreases-loop-base : goal.decreases-loop-base
decreases-loop-base l = l.base
