use Rattle.std.proofs.Common.{All}
use Rattle.path_condition.specs.Leaves.{IsLeaf, seen_leaves}
use Rattle.pair_examples.proofs.leaves.leaves.Given as goal

-- all so far are leaves
abbrev pub invariant-loop-form : goal.invariant-loop-form
invariant-loop-form g l = All (IsLeaf l.semantics) (seen_leaves (g.D.Domain.look l.d) l.leaves)
