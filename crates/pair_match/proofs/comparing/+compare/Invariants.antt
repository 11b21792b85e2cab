use Rattle.std.proofs.Common.{◌≡◌, length, map, take}
use Rattle.data_value.specs.Nodes.{Extends}
use Rattle.sort_term.specs.Tree.{value}
use Rattle.sort_term.specs.NodeTerms.{seen_term, tree_of}
use Rattle.unify.specs.Binds.{seen_binds}
use Rattle.pair_match.specs.Sameness.{seen_sameness, AddsWhere}
use Rattle.pair_match.proofs.comparing.+compare.Given as goal

-- the terms so far are compared with the configurations so far
abbrev pub invariant-compare_all-loop-i : goal.invariant-compare_all-loop-i
invariant-compare_all-loop-i g l =
    let look = g.D.Domain.look in
    let first = look l.fn.d in
    record {
      long : length l.configs ≡ length l.terms;
      extends : Extends first (look l.d);
      same_variables : g.D.Domain.variables l.d ≡ g.D.Domain.variables l.fn.d;
      compared : AddsWhere (g.D.Domain.variables l.fn.d) (seen_binds first l.binds) (seen_sameness first l.fn.sameness) (seen_sameness (look l.d) l.sameness)
          (λ v w. map (value w) (take l.i l.terms) ≡ map (tree_of v) (map (seen_term first) (take l.i l.configs)));
    }
