-- Questions whether a run has no partner, decided.
use Rattle.std.proofs.Common.{arith, ◌≡◌, ℕ, ◌<◌, ◌≤◌, length, inl, inr, List, [], sym, ap, ◌∙◌, subst}
use Rattle.std.proofs.lemmas.Option.{same_Some}
use Rattle.data_value.specs.declared.DataSort.{DataSort}
use Rattle.data_value.specs.Nodes.{Seen, Extends}
use Rattle.data_value.specs.Views.{BeginsWith}
use Rattle.sort_term.specs.declared.points.Point.{Point}
use Rattle.sort_term.specs.declared.problem.Problem.{Problem}
use Rattle.sort_term.specs.Relation.{left, right, IsPoint, IsUndefined}
use Rattle.sort_term.specs.Tree.{Tree}
use Rattle.sort_term.specs.Relation as point
use Rattle.sort_term.specs.Simulation.{RightMatches, LeftMatches, RightIsExcused, long}
use Rattle.sort_term.specs.Verdict.{unmatched, refines}
use Rattle.sort_term.proofs.GroundLemmas.{no_test}
use Rattle.ground_step.specs.declared.verdict.Failure.{Failure}
use Rattle.ground_step.specs.Shows.{Witness}
use Rattle.point_questions.specs.declared.question.Flaw.{Flaw}
use Rattle.point_questions.specs.declared.question.Flaw.TheVariants.{Outside, Long, Halted, RightFails, RightMisses, LeftFails}
use Rattle.point_questions.specs.declared.searched.SearchedPoint.{SearchedPoint}
use Rattle.point_questions.specs.Questions.{SeenPoint, SeenQuestion, seen_point, IsOutsideFlaw, IsRunFlaw, IsRightFailure, IsRightMiss, IsLeftFailure, AreQuestions}
use Rattle.point_questions.specs.Lists.{IsOver}
use Rattle.point_questions.specs.QuestionLaws.{CanShow, Excludes}
use Rattle.point_questions.proofs.Excluding.{right_failures_law, right_misses_law, left_failures_law}
use Rattle.verdict.specs.declared.deciding.FoundFlaw.{FoundFlaw}
use Rattle.verdict.specs.Decided.{AreNeverTrue, IsFoundFirst}
use Rattle.verdict.specs.Examined.{IsGroundedPoint, IsExcusedPoint}
use Rattle.verdict.specs.Explored.{IsExplored}
use Rattle.verdict.specs.Findings.{HasAt}
use Rattle.verdict.specs.Kinds.{kind_at}
use Rattle.verdict.specs.Shown.{IsShownByLeaf}
use Rattle.verdict.proofs.Found.{found_asks, all_excluded, shown_at, shown_by_leaf}
use Rattle.verdict.proofs.Kept.{point_stays, explored_later}

-- what the point with a number has, whatever point it is
pub has_at : (q : Problem) (k : ℕ) (p : Point) (P : Point → Type 0) → IsPoint q k p → P p → HasAt q k P
has_at q k p P there h r is = subst P (same_Some p r (sym there ∙ is)) h

-- a run without a partner is no run of no step
pub failure_other : (flaw : Flaw) → IsRightFailure flaw → IsOutsideFlaw flaw → ⊥
failure_other (Outside s) of out = of
failure_other (Long s i) of out = of
failure_other (Halted s i) of out = of
failure_other (RightFails i) of out = out
failure_other (RightMisses i) of out = of
failure_other (LeftFails i) of out = of

pub miss_other : (flaw : Flaw) → IsRightMiss flaw → IsOutsideFlaw flaw → ⊥
miss_other (Outside s) of out = of
miss_other (Long s i) of out = of
miss_other (Halted s i) of out = of
miss_other (RightFails i) of out = of
miss_other (RightMisses i) of out = out
miss_other (LeftFails i) of out = of

pub left_other : (flaw : Flaw) → IsLeftFailure flaw → IsOutsideFlaw flaw → ⊥
left_other (Outside s) of out = of
left_other (Long s i) of out = of
left_other (Halted s i) of out = of
left_other (RightFails i) of out = of
left_other (RightMisses i) of out = of
left_other (LeftFails i) of out = out

pub run_other : (flaw : Flaw) → IsRunFlaw flaw → IsOutsideFlaw flaw → ⊥
run_other (Outside s) of out = of
run_other (Long s i) of out = out
run_other (Halted s i) of out = out
run_other (RightFails i) of out = of
run_other (RightMisses i) of out = of
run_other (LeftFails i) of out = of

-- the kinds that they give
module _ (q : Problem) (n k : ℕ) (f : Failure) where
  pub failure_kind : (flaw : Flaw) → IsRightFailure flaw → Witness q n (kind_at k flaw) f → Witness q n (unmatched k) f
  failure_kind (Outside s) of w = absurd of
  failure_kind (Long s i) of w = absurd of
  failure_kind (Halted s i) of w = absurd of
  failure_kind (RightFails i) of w = w
  failure_kind (RightMisses i) of w = absurd of
  failure_kind (LeftFails i) of w = absurd of

  pub miss_kind : (flaw : Flaw) → IsRightMiss flaw → Witness q n (kind_at k flaw) f → Witness q n (refines k right) f
  miss_kind (Outside s) of w = absurd of
  miss_kind (Long s i) of w = absurd of
  miss_kind (Halted s i) of w = absurd of
  miss_kind (RightFails i) of w = absurd of
  miss_kind (RightMisses i) of w = w
  miss_kind (LeftFails i) of w = absurd of

  pub left_kind : (flaw : Flaw) → IsLeftFailure flaw → Witness q n (kind_at k flaw) f → Witness q n (refines k left) f
  left_kind (Outside s) of w = absurd of
  left_kind (Long s i) of w = absurd of
  left_kind (Halted s i) of w = absurd of
  left_kind (RightFails i) of w = absurd of
  left_kind (RightMisses i) of w = absurd of
  left_kind (LeftFails i) of w = w

module _ {N : Type 0} (look : N → Seen N) (q : Problem) (n k : ℕ) (before : List DataSort) (y : SearchedPoint N) (is : IsExplored q n k before (seen_point look y)) where
  -- what is asked can be shown where no run of either side is long
  module _ (no_left : ¬ point.Long q n is.point left) (no_right : ¬ point.Long q n is.point right) where
    failure_can : (flaw : Flaw) → IsRightFailure flaw → CanShow q n is.point is.variables (seen_point look y) flaw
    failure_can (Outside s) of = absurd of
    failure_can (Long s i) of = absurd of
    failure_can (Halted s i) of = absurd of
    failure_can (RightFails i) of = (is.searched, no_left)
    failure_can (RightMisses i) of = absurd of
    failure_can (LeftFails i) of = absurd of

    miss_can : (flaw : Flaw) → IsRightMiss flaw → CanShow q n is.point is.variables (seen_point look y) flaw
    miss_can (Outside s) of = absurd of
    miss_can (Long s i) of = absurd of
    miss_can (Halted s i) of = absurd of
    miss_can (RightFails i) of = absurd of
    miss_can (RightMisses i) of = (is.searched, no_left)
    miss_can (LeftFails i) of = absurd of

    left_can : (flaw : Flaw) → IsLeftFailure flaw → CanShow q n is.point is.variables (seen_point look y) flaw
    left_can (Outside s) of = absurd of
    left_can (Long s i) of = absurd of
    left_can (Halted s i) of = absurd of
    left_can (RightFails i) of = absurd of
    left_can (RightMisses i) of = absurd of
    left_can (LeftFails i) of = (is.searched, no_right)

  -- the questions of a kind
  module _ (Of : Flaw → Type 0) (now : List DataSort) (ys : List (SeenQuestion N)) (asked : (variables : List DataSort) → IsOver variables before (seen_point look y) → AreQuestions Of q variables now (seen_point look y) ys) where
    pub asked_here : AreQuestions Of q is.variables now (seen_point look y) ys
    asked_here = asked is.variables is.over

    pub found_leaf : (found : FoundFlaw) → IsFoundFirst now ys found → ((flaw : Flaw) → Of flaw → IsOutsideFlaw flaw → ⊥) → ((flaw : Flaw) → Of flaw → CanShow q n is.point is.variables (seen_point look y) flaw) → IsShownByLeaf q n k y found
    found_leaf found first other can =
        let a = found_asks Of q is.variables now (seen_point look y) ys asked_here found first in
        shown_by_leaf q n k look y found (other found.flaw a.0) is.variables now first.question.formula a.1
        (shown_at q n k is.point is.there is.variables now (seen_point look y) is.posed found.flaw first.question.formula a.1 (can found.flaw a.0) found.values first.holds)

    pub found_of : (found : FoundFlaw) → IsFoundFirst now ys found → Of found.flaw
    found_of found first = (found_asks Of q is.variables now (seen_point look y) ys asked_here found first).0

    pub none_found : AreNeverTrue now ys → Excludes Of q is.variables (seen_point look y)
    none_found never = all_excluded Of q is.variables now (seen_point look y) ys asked_here never

-- at a point that is well grounded
module _ {N : Type 0} (look : N → Seen N) (q : Problem) (n k : ℕ) (most : 1 ≤ n) (before : List DataSort) (y : SearchedPoint N) (g : IsGroundedPoint q n k before (seen_point look y)) where
  no_left : ¬ point.Long q n g.explored.point left
  no_left = no_test q n most g.explored.point g.grounded (long left)

  no_right : ¬ point.Long q n g.explored.point right
  no_right = no_test q n most g.explored.point g.grounded (long right)

  module _ (now : List DataSort) (ys : List (SeenQuestion N)) where
    pub failure_leaf : ((variables : List DataSort) → IsOver variables before (seen_point look y) → AreQuestions IsRightFailure q variables now (seen_point look y) ys) → (found : FoundFlaw) → IsFoundFirst now ys found → IsShownByLeaf q n k y found
    failure_leaf asked found first = found_leaf look q n k before y g.explored IsRightFailure now ys asked found first failure_other (failure_can look q n k before y g.explored no_left no_right)

    pub miss_leaf : ((variables : List DataSort) → IsOver variables before (seen_point look y) → AreQuestions IsRightMiss q variables now (seen_point look y) ys) → (found : FoundFlaw) → IsFoundFirst now ys found → IsShownByLeaf q n k y found
    miss_leaf asked found first = found_leaf look q n k before y g.explored IsRightMiss now ys asked found first miss_other (miss_can look q n k before y g.explored no_left no_right)

    pub left_leaf : ((variables : List DataSort) → IsOver variables before (seen_point look y) → AreQuestions IsLeftFailure q variables now (seen_point look y) ys) → (found : FoundFlaw) → IsFoundFirst now ys found → IsShownByLeaf q n k y found
    left_leaf asked found first = found_leaf look q n k before y g.explored IsLeftFailure now ys asked found first left_other (left_can look q n k before y g.explored no_left no_right)

    pub failure_none : ((variables : List DataSort) → IsOver variables before (seen_point look y) → AreQuestions IsRightFailure q variables now (seen_point look y) ys) → AreNeverTrue now ys → RightIsExcused q g.explored.point
    failure_none asked never = right_failures_law N q n g.explored.point g.explored.variables (seen_point look y) g.explored.posed g.explored.searched no_right (none_found look q n k before y g.explored IsRightFailure now ys asked never)

    pub miss_none : ((variables : List DataSort) → IsOver variables before (seen_point look y) → AreQuestions IsRightMiss q variables now (seen_point look y) ys) → AreNeverTrue now ys → HasAt q k (RightMatches q)
    miss_none asked never = has_at q k g.explored.point (RightMatches q) g.explored.there (right_misses_law N q n g.explored.point g.explored.variables (seen_point look y) g.explored.posed g.explored.searched no_right (none_found look q n k before y g.explored IsRightMiss now ys asked never))

    pub left_none : ((variables : List DataSort) → IsOver variables before (seen_point look y) → AreQuestions IsLeftFailure q variables now (seen_point look y) ys) → AreNeverTrue now ys → HasAt q k (LeftMatches q)
    left_none asked never = has_at q k g.explored.point (LeftMatches q) g.explored.there (left_failures_law N q n g.explored.point g.explored.variables (seen_point look y) g.explored.posed g.explored.searched no_left (none_found look q n k before y g.explored IsLeftFailure now ys asked never))

-- in a grown domain
module _ {N : Type 0} (f h : N → Seen N) (x : Extends f h) (q : Problem) (n k : ℕ) (before now : List DataSort) (begins : BeginsWith now before) (y : SearchedPoint N) where
  pub grounded_later : IsGroundedPoint q n k before (seen_point f y) → IsGroundedPoint q n k now (seen_point h y)
  grounded_later g =
      subst (IsGroundedPoint q n k now) (sym (point_stays f h x q n k before now begins y g.explored))
      (record { explored = explored_later f h x q n k before now begins y g.explored; grounded = g.grounded })

  pub excused_later : (g : IsGroundedPoint q n k before (seen_point f y)) → RightIsExcused q g.explored.point → IsExcusedPoint q n k now (seen_point h y)
  excused_later g excused =
      subst (IsExcusedPoint q n k now) (sym (point_stays f h x q n k before now begins y g.explored))
      (record { explored = explored_later f h x q n k before now begins y g.explored; grounded = g.grounded; excused = excused })

-- the same point, without what is known of its right side
pub grounded_of : {N : Type 0} (q : Problem) (n k : ℕ) (now : List DataSort) (x : SeenPoint N) → IsExcusedPoint q n k now x → IsGroundedPoint q n k now x
grounded_of q n k now x e = record { explored = e.explored; grounded = e.grounded }

-- without undefined items nothing is excused
pub all_match : {N : Type 0} (q : Problem) (n k : ℕ) (now : List DataSort) (x : SeenPoint N) → q.points.undefs ≡ [] → IsExcusedPoint q n k now x → HasAt q k (RightMatches q)
all_match q n k now x none e = has_at q k e.explored.point (RightMatches q) e.explored.there (λ v a b r b' h. elim (e.excused v a b r b' h) [ inl m ↦ m | inr u ↦ absurd (nothing u.0 u.2) ])
  where
    nothing : (s : Tree) → IsUndefined q s → ⊥
    nothing s u = let l : u.0 < length q.points.undefs = u.2 in let e : length q.points.undefs ≡ 0 = ap length none in absurd (omega (arith, l, e))
