use Rattle.std.proofs.Common.{ℕ, ◌≡◌, ◌+◌, ◌-◌, length, slice_index_or}
use Rattle.refute_check.proofs.number_set.reach.Given as goal

abbrev pub invariant-loop-stamps : goal.invariant-loop-stamps
invariant-loop-stamps l = (k : ℕ) → slice_index_or l.stamps.items k 0 ≡ slice_index_or l.initial.stamps.items k 0

abbrev pub decreases-loop-stamps : goal.decreases-loop-stamps
decreases-loop-stamps l = l.number + 1 - length l.stamps.items
