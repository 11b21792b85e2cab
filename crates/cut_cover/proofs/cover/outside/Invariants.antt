use Rattle.std.proofs.Common.{◌≡◌, take}
use Rattle.data_value.specs.Nodes.{Extends}
use Rattle.sort_term.specs.NodeTerms.{seen_term}
use Rattle.cut_cover.specs.Outside.{IsOutside}
use Rattle.cut_cover.proofs.cover.outside.Given as goal

-- the node says where the configuration is outside of the items so far
abbrev pub invariant-loop-item : goal.invariant-loop-item
invariant-loop-item g l =
    let look = g.D.Domain.look in
    let first = look l.fn.d in
    record {
      extends : Extends first (look l.d);
      same_variables : g.D.Domain.variables l.d ≡ g.D.Domain.variables l.fn.d;
      outside : IsOutside (g.D.Domain.variables l.fn.d) l.semantics.cons (take l.item-index l.item-items) (seen_term first l.config.term) (look l.d l.outside);
    }
