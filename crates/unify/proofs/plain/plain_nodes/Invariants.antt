use Rattle.std.proofs.Common.{◌≡◌, map, All}
use Rattle.sort_term.specs.declared.term.Term.TheVariants.{Plain}
use Rattle.unify.specs.Binds.{IsNode}
use Rattle.unify.proofs.plain.plain_nodes.Given as goal

-- the terms so far are the nodes so far, and those left are nodes
abbrev pub invariant-loop-term : goal.invariant-loop-term
invariant-loop-term g l = record { made : l.yielded ≡ map Plain l.nodes; left : All IsNode l.term-iterator.rest.items }
