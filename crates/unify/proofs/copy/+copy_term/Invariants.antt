use Rattle.std.proofs.Common.{◌≡◌, map, take}
use Rattle.sort_term.specs.NodeTerms.{seen_term}
use Rattle.unify.proofs.copy.+copy_term.Given as goal

-- the copies so far are seen as the terms so far
abbrev pub invariant-copy_terms-loop-term : goal.invariant-copy_terms-loop-term
invariant-copy_terms-loop-term g l = map (seen_term (g.D.Domain.look l.d)) l.copies.items ≡ map (seen_term (g.D.Domain.look l.d)) (take l.term-index l.terms)
