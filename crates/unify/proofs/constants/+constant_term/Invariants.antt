use Rattle.std.proofs.Common.{◌≡◌, map, take}
use Rattle.data_value.specs.Nodes.{Extends}
use Rattle.sort_term.specs.NodeTerms.{seen_term}
use Rattle.unify.specs.Constants.{AreTreeTerms}
use Rattle.unify.proofs.constants.+constant_term.Given as goal

-- the terms so far mean the trees so far
abbrev pub invariant-constant_terms-loop-tree : goal.invariant-constant_terms-loop-tree
invariant-constant_terms-loop-tree g l =
    let look = g.D.Domain.look in
    record {
      extends : Extends (look l.fn.d) (look l.d);
      same_variables : g.D.Domain.variables l.d ≡ g.D.Domain.variables l.fn.d;
      terms : AreTreeTerms l.semantics.cons (take l.tree-index l.trees) (map (seen_term (look l.d)) l.terms);
    }
