use Rattle.std.proofs.Common.{◌≡◌, ◌≤◌, Bool, List, None, length, take}
use Rattle.refute_check.specs.declared.lit.Lit.{Lit as Literal}
use Rattle.clause_search.specs.Partial.{lit_value}
use Rattle.clause_search.specs.Trail.{IsTrail}
use Rattle.clause_search.specs.Analysis.{AreSeenBut, AreUnmarked}
use Rattle.clause_search.proofs.analysis.jump.Given as goal

abbrev pub invariant-loop-trail : goal.invariant-loop-trail
invariant-loop-trail l = record {
  within : l.kept ≤ length l.trail.entries;
  unmarked : AreUnmarked l.initial.hints.marks l.trail.entries l.kept;
  trail : (cs : List (List Literal)) → IsTrail cs l.initial.trail → IsTrail cs l.trail;
  entries : take l.kept l.trail.entries ≡ take l.kept l.initial.trail.entries;
  vars : length l.trail.values ≡ length l.initial.trail.values;
  others : (u : Literal) (s : Literal → Bool) → AreSeenBut l.initial.trail.values l.initial.hints.marks u s → AreSeenBut l.trail.values l.initial.hints.marks u s;
  undecided : (u : Literal) → lit_value l.initial.trail.values u ≡ None → lit_value l.trail.values u ≡ None;
}

abbrev pub decreases-loop-trail : goal.decreases-loop-trail
decreases-loop-trail l = length l.trail.entries
