use Rattle.std.proofs.Common.{◌≡◌, ℕ, ◌<◌, slice_get, take, Some}
use Rattle.sort_term.specs.declared.semantics.Con.{Con}
use Rattle.sort_term.specs.Signature.{IsCon}
use Rattle.sort_term.proofs.signature.are_declared.Given as goal

abbrev pub invariant-loop-k : goal.invariant-loop-k
invariant-loop-k l = (j : ℕ) → j < l.k → (d : Con) → slice_get l.cons j ≡ Some d → IsCon l.sorts (take j l.cons) d
