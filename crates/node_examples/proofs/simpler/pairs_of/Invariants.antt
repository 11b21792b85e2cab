use Rattle.std.proofs.Common.{All}
use Rattle.simplify.specs.Pairs.{IsPair, seen_pairs}
use Rattle.node_examples.proofs.simpler.pairs_of.Given as goal

-- the pairs so far are of nodes of one sort
abbrev pub invariant-loop-form : goal.invariant-loop-form
invariant-loop-form g l = All IsPair (seen_pairs (g.D.Domain.look l.d) l.pairs.items)
