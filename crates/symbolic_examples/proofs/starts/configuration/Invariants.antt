use Rattle.std.proofs.Common.{◌≡◌, map, take, Some}
use Rattle.sort_term.specs.NodeTerms.{seen_term, seen_sort}
use Rattle.symbolic_examples.proofs.starts.configuration.Given as goal

-- the parts so far have the sorts so far
abbrev pub invariant-loop-place : goal.invariant-loop-place
invariant-loop-place g l = map (λ t. seen_sort l.semantics.cons (seen_term (g.D.Domain.look l.d) t)) l.parts.items ≡ map Some (take l.place l.sorts)
