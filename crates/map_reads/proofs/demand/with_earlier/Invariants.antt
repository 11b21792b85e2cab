use Rattle.std.proofs.Common.{ℕ, List, ◌<◌}
use Rattle.map_reads.specs.Demands.{AgreeIn, IsDemanded}
use Rattle.map_reads.proofs.demand.with_earlier.Given as goal

-- the read is demanded to agree with the earlier ones so far
abbrev pub invariant-loop-first : goal.invariant-loop-first
invariant-loop-first l = IsDemanded l.fn.draft l.draft l.root l.demanded (λ (words : List ℕ). (i : ℕ) → i < l.first → AgreeIn l.fn.draft words i l.last)
