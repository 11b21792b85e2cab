-- From the questions of a point to what is found of it.
use Rattle.std.proofs.Common.{ℕ, List, [], Option, Some, None, subst}
use Rattle.data_value.specs.declared.DataSort.{DataSort}
use Rattle.data_value.specs.declared.Value.{Value}
use Rattle.data_value.specs.Nodes.{Seen}
use Rattle.sort_term.specs.declared.points.Point.{Point}
use Rattle.sort_term.specs.declared.problem.Problem.{Problem}
use Rattle.sort_term.specs.Relation.{left}
use Rattle.sort_term.specs.Simulation.{RightMatches}
use Rattle.ground_step.specs.declared.verdict.Failure.{Failure}
use Rattle.ground_step.specs.Shows.{Witness}
use Rattle.point_questions.specs.declared.question.Flaw.{Flaw}
use Rattle.point_questions.specs.declared.question.Flaw.TheVariants.{Outside, Long, Halted, RightFails, RightMisses, LeftFails}
use Rattle.point_questions.specs.declared.searched.SearchedPoint.{SearchedPoint}
use Rattle.point_questions.specs.Posed.{SeenPosed, IsPosed}
use Rattle.point_questions.specs.Questions.{SeenPoint, SeenQuestion, seen_point, posed_of, unsearched, IsOutsideFlaw, IsRunFlaw, AreQuestions}
use Rattle.point_questions.specs.QuestionLaws.{IsSearched, CanShow}
use Rattle.point_questions.proofs.Excluding.{grounded_law}
use Rattle.verdict.specs.declared.deciding.FoundFlaw.{FoundFlaw}
use Rattle.verdict.specs.declared.standing.Standing.{Standing}
use Rattle.verdict.specs.declared.standing.Standing.TheVariants.{Matched, Missed, Failed}
use Rattle.verdict.specs.Decided.{AreNeverTrue, IsFoundFirst}
use Rattle.verdict.specs.Examined.{IsPosedHeld, IsInside, IsGroundedPoint}
use Rattle.verdict.specs.Findings.{HasAt, IsSound, IsMissing, IsLeftMissing, IsUngroundedBy}
use Rattle.verdict.specs.Kinds.{kind_at}
use Rattle.verdict.specs.Shown.{IsShownAt, IsShownByLeaf, verdict_by}
use Rattle.verdict.proofs.Found.{found_asks, all_excluded, before_excluded, shown_at, shown_by_leaf}
use Rattle.verdict.proofs.FirstTests.{outside_found, run_found}
use Rattle.verdict.proofs.Leaves.{run_other}

-- where nothing is wrong at all, nothing is of what is asked
pub sound_any : (q : Problem) (s : Standing) (p : Point) → IsSound q Matched p → IsSound q s p
sound_any q Matched p h = h
sound_any q (Missed f) p h = h.0
sound_any q (Failed f) p h = tt

-- both sides, the right one first
pub both_missing : (q : Problem) (n k : ℕ) (o : Option Failure) → HasAt q k (RightMatches q) → IsLeftMissing q n k o → IsMissing q n k o
both_missing q n k None r l = λ p is. (r p is, l p is)
both_missing q n k (Some f) r w = (left, w, λ p is m. let b = r p is m.0 m.1 m.2 m.3 m.4.0 m.4.1 in m.4.2 b.0 b.1 b.2)

module _ {N : Type 0} (look : N → Seen N) (q : Problem) (n k : ℕ) (now : List DataSort) (y : SearchedPoint N) (i : IsInside q n k now (seen_point look y)) where
  x : SeenPoint N
  x = seen_point look y

  p : Point
  p = i.explored.point

  posed_now : IsPosed now q i.explored.point (posed_of (seen_point look y))
  posed_now = subst (λ vs. IsPosed vs q i.explored.point (posed_of (seen_point look y))) i.same i.explored.posed

  searched_now : IsSearched q n now (seen_point look y)
  searched_now = subst (λ vs. IsSearched q n vs (seen_point look y)) i.same i.explored.searched

  can : (flaw : Flaw) → IsRunFlaw flaw → CanShow q n i.explored.point now (seen_point look y) flaw
  can (Outside s) of = absurd of
  can (Long s j) of = searched_now
  can (Halted s j) of = searched_now
  can (RightFails j) of = absurd of
  can (RightMisses j) of = absurd of
  can (LeftFails j) of = absurd of

  module _ (ys : List (SeenQuestion N)) (asked : AreQuestions IsRunFlaw q now now (seen_point look y) ys) where
    pub run_leaf : (found : FoundFlaw) → IsFoundFirst now ys found → IsShownByLeaf q n k y found
    run_leaf found first =
        let a = found_asks IsRunFlaw q now now (seen_point look y) ys asked found first in
        shown_by_leaf q n k look y found (run_other found.flaw a.0) now now first.question.formula a.1
        (shown_at q n k i.explored.point i.explored.there now now (seen_point look y) posed_now found.flaw first.question.formula a.1 (can found.flaw a.0) found.values first.holds)

    pub run_verdict : (found : FoundFlaw) → IsFoundFirst now ys found → (f : Failure) → Witness q n (kind_at k found.flaw) f → IsUngroundedBy q n k (verdict_by found.flaw f)
    run_verdict found first f w =
        run_found q n k i.explored.point i.explored.there now (seen_point look y) posed_now i.values i.fits i.holds f searched_now i.inside found.flaw (found_asks IsRunFlaw q now now (seen_point look y) ys asked found first).0
        (before_excluded IsRunFlaw q now now (seen_point look y) ys asked found first) w

    pub run_none : AreNeverTrue now ys → IsGroundedPoint q n k now (seen_point look y)
    run_none never = record {
      explored = i.explored;
      grounded = grounded_law N q n i.explored.point now (seen_point look y) posed_now searched_now i.values i.fits i.holds i.inside (all_excluded IsRunFlaw q now now (seen_point look y) ys asked never);
    }

-- a point that isn't searched yet
module _ {N : Type 0} (q : Problem) (n k : ℕ) (now : List DataSort) (x : SeenPosed N) (h : IsPosedHeld q k now x) (ys : List (SeenQuestion N)) (asked : AreQuestions IsOutsideFlaw q now now (unsearched x) ys) where
  outside_can : (flaw : Flaw) → IsOutsideFlaw flaw → CanShow q n h.point now (unsearched x) flaw
  outside_can (Outside s) of = tt
  outside_can (Long s j) of = absurd of
  outside_can (Halted s j) of = absurd of
  outside_can (RightFails j) of = absurd of
  outside_can (RightMisses j) of = absurd of
  outside_can (LeftFails j) of = absurd of

  no_rules : (flaw : Flaw) → IsOutsideFlaw flaw → (u : List Value) (rules : List ℕ) → IsShownAt q n k flaw u rules → IsShownAt q n k flaw u []
  no_rules (Outside s) of u rules shown = subst (IsShownAt q n k (Outside s) u) shown.shown.0 shown
  no_rules (Long s j) of u rules shown = absurd of
  no_rules (Halted s j) of u rules shown = absurd of
  no_rules (RightFails j) of u rules shown = absurd of
  no_rules (RightMisses j) of u rules shown = absurd of
  no_rules (LeftFails j) of u rules shown = absurd of

  pub outside_shown : (found : FoundFlaw) → IsFoundFirst now ys found → IsShownAt q n k found.flaw found.values []
  outside_shown found first =
      let a = found_asks IsOutsideFlaw q now now (unsearched x) ys asked found first in
      no_rules found.flaw a.0 found.values a.1.leaf.rules (shown_at q n k h.point h.there now now (unsearched x) h.posed found.flaw first.question.formula a.1 (outside_can found.flaw a.0) found.values first.holds)

  pub outside_verdict : (found : FoundFlaw) → IsFoundFirst now ys found → (f : Failure) → Witness q n (kind_at k found.flaw) f → IsUngroundedBy q n k (verdict_by found.flaw f)
  outside_verdict found first f w =
      outside_found q n k h.point h.there now (unsearched x) h.posed h.values h.fits h.holds f found.flaw (found_asks IsOutsideFlaw q now now (unsearched x) ys asked found first).0
      (before_excluded IsOutsideFlaw q now now (unsearched x) ys asked found first) w
