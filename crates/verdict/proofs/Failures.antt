-- Failures by a run of one side, and what they witness.
use Rattle.std.proofs.Common.{◌≡◌, ℕ, List, slice_index_or, Some, sym, ◌∙◌, subst}
use Rattle.std.proofs.lemmas.Option.{get_or_from_slice_get}
use Rattle.data_value.specs.declared.Value.{Value}
use Rattle.sort_term.specs.declared.points.Point.{Point}
use Rattle.sort_term.specs.declared.problem.Problem.{Problem}
use Rattle.sort_term.specs.Tree.{Tree, value}
use Rattle.sort_term.specs.Relation.{Side, IsPoint, Relates, of_side}
use Rattle.ground_step.specs.Fit.{plain_trees}
use Rattle.verdict.specs.Failing.{RunsTo, HasRun}

module _ (q : Problem) (k : ℕ) (side : Side) (values : List Value) (rules : List ℕ) (h : HasRun q k side values rules) (p : Point) (is : p ≡ slice_index_or q.points.points k p) where
  -- the point that is looked up is the one of the number
  same_point : h.point ≡ p
  same_point = sym (get_or_from_slice_get q.points.points k h.point p h.there) ∙ sym is

  pub pair_there : Relates q p (plain_trees values) h.left h.right
  pair_there = subst (λ x. Relates q x (plain_trees values) h.left h.right) same_point h.pair

  module _ (a b : Tree) (a_is : a ≡ value (plain_trees values) p.left) (b_is : b ≡ value (plain_trees values) p.right) where
    left_is : h.left ≡ a
    left_is = sym pair_there.left ∙ sym a_is

    right_is : h.right ≡ b
    right_is = sym pair_there.right ∙ sym b_is

    -- two states with the point's values under them are its pair, and the run is from one of them
    pub pair_is : Relates q p (plain_trees values) a b
    pair_is = subst (λ y. Relates q p (plain_trees values) a y) right_is (subst (λ x. Relates q p (plain_trees values) x h.right) left_is pair_there)

    pub run_is : RunsTo q side (of_side side a b) rules h.last
    run_is = subst (λ y. RunsTo q side (of_side side a y) rules h.last) right_is (subst (λ x. RunsTo q side (of_side side x h.right) rules h.last) left_is h.run)

  -- and so whatever point has the number
  pub pair_of : (a b : Tree) → Relates q p (plain_trees values) a b → (r : Point) → IsPoint q k r → Relates q r (plain_trees values) a b
  pair_of a b x r there = subst (λ y. Relates q y (plain_trees values) a b) (sym same_point ∙ one) x
    where
      one : h.point ≡ r
      one = let e : Some h.point ≡ Some r = sym h.there ∙ there in cc
