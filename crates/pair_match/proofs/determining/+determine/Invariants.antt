use Rattle.std.proofs.Common.{◌≡◌, length, map, take}
use Rattle.sort_term.specs.NodeTerms.{seen_term}
use Rattle.unify.specs.Binds.{seen_binds}
use Rattle.pair_match.specs.Determines.{DeterminesAll}
use Rattle.pair_match.proofs.determining.+determine.Given as goal

-- the terms so far are determined by the configurations so far
abbrev pub invariant-determine_all-loop-i : goal.invariant-determine_all-loop-i
invariant-determine_all-loop-i g l =
    let look = g.D.Domain.look l.d in
    record {
      long : length l.configs ≡ length l.terms;
      determined : DeterminesAll l.semantics.cons l.vars (take l.i l.terms) (map (seen_term look) (take l.i l.configs)) (seen_binds look l.fn.binds) (seen_binds look l.binds);
    }
