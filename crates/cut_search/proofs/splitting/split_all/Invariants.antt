use Rattle.std.proofs.Common.{◌≡◌, length, take, [], ◌∷◌}
use Rattle.data_value.specs.Nodes.{Extends}
use Rattle.sort_term.specs.Cuts.{InCut}
use Rattle.path_condition.specs.Leaves.{seen_leaves, Gives}
use Rattle.cut_search.specs.Drops.{AreAnswered}
use Rattle.cut_search.specs.Found.{seen_reach, IsReach, SplitOf, judged_by}
use Rattle.cut_search.proofs.splitting.split_all.Given as goal

-- the leaves so far are split
abbrev pub invariant-loop-leaf : goal.invariant-loop-leaf
invariant-loop-leaf g l =
    let look = g.D.Domain.look in
    let variables = g.D.Domain.variables l.fn.d in
    let first = look l.fn.d in
    record {
      extends : Extends first (look l.d);
      same_variables : g.D.Domain.variables l.d ≡ variables;
      reach : IsReach variables l.semantics (judged_by g.J.Drops.Allows g.J.Drops.Keeps variables (first l.before ∷ [])) (SplitOf (InCut l.semantics.cons l.cuts) (λ v rules t. Gives v rules t (take l.leaf-index (seen_leaves first l.leaves)))) (seen_reach (look l.d) l.reach);
      answered : AreAnswered l.fn.answers.items l.answers.items (length l.reach.dropped);
    }
