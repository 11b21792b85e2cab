use Rattle.std.proofs.Common.{ℕ, List, ◌<◌}
use Rattle.map_reads.specs.Demands.{AgreeIn, IsDemanded}
use Rattle.map_reads.proofs.demand.demand.Given as goal

-- each two of the reads so far are demanded to agree
abbrev pub invariant-loop-last : goal.invariant-loop-last
invariant-loop-last l = IsDemanded l.fn.draft l.draft l.root l.demanded (λ (words : List ℕ). (i j : ℕ) → i < j → j < l.last → AgreeIn l.fn.draft words i j)
