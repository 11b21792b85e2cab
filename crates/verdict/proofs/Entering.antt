-- From a point whose states are in their cuts, with both sides searched, to what its examination begins with.
use Rattle.std.proofs.Common.{ℕ, ◌<◌, false, List, [], ◌∷◌, ◌++◌, length, All, refl, sym, ap, ◌∙◌, subst}
use Rattle.std.proofs.lemmas.List.{get_or_append_left}
use Rattle.std.proofs.lemmas.List.Elements.{All-nil, All-cons, All-head, All-tail}
use Rattle.data_value.specs.declared.DataSort.{DataSort}
use Rattle.data_value.specs.declared.Scalar.TheVariants.{Flag}
use Rattle.data_value.specs.declared.Value.{Value}
use Rattle.data_value.specs.declared.Value.TheVariants.{One}
use Rattle.data_value.specs.Nodes.{Seen, IsValuation}
use Rattle.data_value.specs.Truth.{truth}
use Rattle.data_value.specs.Views.{AgreeBelow, IsViewed}
use Rattle.data_value.proofs.NodeLemmas.{depends}
use Rattle.sort_term.specs.declared.problem.Problem.{Problem}
use Rattle.sort_term.specs.System.{System}
use Rattle.sort_term.specs.NodeTerms.{seen_term}
use Rattle.sort_term.proofs.NodeTerming.{depend_law}
use Rattle.path_condition.specs.declared.leaf.Leaf.{Leaf}
use Rattle.path_condition.specs.Leaves.{seen_leaf, seen_leaves, IsLeaf}
use Rattle.path_condition.proofs.LeafLemmas.{configuration_valid}
use Rattle.probe_keys.proofs.Lengthened.{settled, settled_truth, valuation_long, begins_same}
use Rattle.ground_step.specs.declared.verdict.SideName.TheVariants as side
use Rattle.point_questions.specs.declared.question.Flaw.TheVariants.{Outside, Long, Halted, RightFails, RightMisses, LeftFails}
use Rattle.point_questions.specs.declared.searched.SearchedPoint.{SearchedPoint}
use Rattle.point_questions.specs.Posed.{SeenPosed, IsPosed}
use Rattle.point_questions.specs.Questions.{SeenPoint, SeenQuestion, seen_point, posed_of, unsearched, IsOutsideFlaw, AreQuestions}
use Rattle.point_questions.specs.Lists.{IsLeafOver}
use Rattle.point_questions.specs.QuestionLaws.{Excludes}
use Rattle.verdict.specs.Decided.{AreNeverTrue}
use Rattle.verdict.specs.Examined.{IsPosedHeld, IsInside}
use Rattle.verdict.specs.Explored.{AreExplored}
use Rattle.verdict.proofs.Found.{all_excluded}

-- values with others behind them agree with them on their variables
agrees : (variables : List DataSort) (v w : List Value) → IsValuation variables v → AgreeBelow (length variables) (v ++ w) v
agrees variables v w fits = record { at = λ i l. get_or_append_left v w (One (Flag false)) i (subst (λ n. i < n) (sym (valuation_long variables v fits)) l) }

-- leaves over the variables of a domain
module _ {S N : Type 0} (look : N → Seen N) (variables : List DataSort) (views : IsViewed look variables) (sys : System) where
  leaf_over : (l : Leaf S N) → IsLeaf sys (seen_leaf look l) → IsLeafOver variables (seen_leaf look l)
  leaf_over l is = record {
    condition = λ v w fits. settled_truth variables (look l.condition) (settled look variables views l.condition is.condition.valid) v w fits;
    state = λ v w fits. depend_law N look variables (λ m. depends look variables views.shows m) l.config.term (v ++ w) v (configuration_valid sys (seen_term look l.config.term) is.state) (agrees variables v w fits);
  }

  pub leaves_over : (ls : List (Leaf S N)) → All (IsLeaf sys) (seen_leaves look ls) → All (IsLeafOver variables) (seen_leaves look ls)
  leaves_over [] a = All-nil (IsLeafOver variables)
  leaves_over (l ∷ ls) a =
      All-cons (IsLeafOver variables) (seen_leaf look l) (seen_leaves look ls) (leaf_over l (All-head (IsLeaf sys) (seen_leaf look l) (seen_leaves look ls) a)) (leaves_over ls (All-tail (IsLeaf sys) (seen_leaf look l) (seen_leaves look ls) a))

-- the questions "outside" are the same where both sides are searched
still_excluded : {N : Type 0} (q : Problem) (now : List DataSort) (x : SeenPoint N) → Excludes IsOutsideFlaw q now (unsearched (posed_of x)) → Excludes IsOutsideFlaw q now x
still_excluded q now x all (Outside side.Left) of some =
    let e = all (Outside side.Left) tt refl in
    record { now = e.now; formula = e.formula; question = record { leaf = e.question.leaf; there = e.question.there; asks = e.question.asks }; never = e.never }
still_excluded q now x all (Outside side.Right) of some =
    let e = all (Outside side.Right) tt refl in
    record { now = e.now; formula = e.formula; question = record { leaf = e.question.leaf; there = e.question.there; asks = e.question.asks }; never = e.never }
still_excluded q now x all (Long s i) of some = absurd of
still_excluded q now x all (Halted s i) of some = absurd of
still_excluded q now x all (RightFails i) of some = absurd of
still_excluded q now x all (RightMisses i) of some = absurd of
still_excluded q now x all (LeftFails i) of some = absurd of

module _ {N : Type 0} (look : N → Seen N) (q : Problem) (n k : ℕ) (now : List DataSort) (views : IsViewed look now) (x : SeenPosed N) (h : IsPosedHeld q k now x) (ys : List (SeenQuestion N)) (asked : AreQuestions IsOutsideFlaw q now now (unsearched x) ys) (never : AreNeverTrue now ys) (y : SearchedPoint N) (e : AreExplored q n now x (seen_point look y)) where
  pub entered : IsInside q n k now (seen_point look y)
  entered = record {
    explored = record {
      point = h.point;
      there = h.there;
      variables = now;
      posed = subst (IsPosed now q h.point) (sym e.from) h.posed;
      left = e.left;
      right = e.right;
      searched = e.searched;
      over = record { begins = begins_same now now refl; left = leaves_over look now views q.left y.left.met e.left.met; right = leaves_over look now views q.right y.right.met e.right.met };
    };
    same = refl;
    values = h.values;
    fits = h.fits;
    holds = ap (λ (z : SeenPosed N). truth z.condition h.values) e.from ∙ h.holds;
    inside = still_excluded q now (seen_point look y) (subst (λ z. Excludes IsOutsideFlaw q now (unsearched z)) (sym e.from) (all_excluded IsOutsideFlaw q now now (unsearched x) ys asked never));
  }
