use Rattle.std.proofs.Common.{◌≡◌, length, [], ◌∷◌}
use Rattle.data_value.specs.Nodes.{Extends}
use Rattle.sort_term.specs.Step.{StepsBy}
use Rattle.sort_term.specs.Cuts.{InCut}
use Rattle.sort_term.specs.NodeTerms.{seen_term}
use Rattle.cut_search.specs.Drops.{AreAnswered}
use Rattle.cut_search.specs.Found.{seen_reach, IsReach, judged_by}
use Rattle.cut_search.proofs.Searching.{FoundIn}
use Rattle.cut_search.proofs.dropping.all_found.Given as goal

-- all runs of as many steps as were made
abbrev pub invariant-loop-level : goal.invariant-loop-level
invariant-loop-level g l =
    let look = g.D.Domain.look in
    let variables = g.D.Domain.variables l.fn.d in
    let first = look l.fn.d in
    record {
      extends : Extends first (look l.d);
      same_variables : g.D.Domain.variables l.d ≡ variables;
      reach : IsReach variables l.semantics (judged_by g.J.Drops.Allows g.J.Drops.Keeps variables (first l.condition ∷ [])) (FoundIn (first l.condition) (seen_term first l.start.term) (StepsBy l.semantics l.program) (InCut l.semantics.cons l.cuts) l._level) (seen_reach (look l.d) l.reach);
      answered : AreAnswered l.fn.answers.items l.answers.items (length l.reach.dropped);
    }
