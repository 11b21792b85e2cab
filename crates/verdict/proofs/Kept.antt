-- What was seen of a point stays where the domain grows.
use Rattle.std.proofs.Common.{◌≡◌, List, ap, ◌∙◌}
use Rattle.data_value.specs.declared.DataSort.{DataSort}
use Rattle.data_value.specs.Nodes.{Seen, Extends}
use Rattle.data_value.specs.Truth.{IsCondition}
use Rattle.data_value.specs.Views.{BeginsWith}
use Rattle.sort_term.specs.declared.problem.Problem.{Problem}
use Rattle.sort_term.specs.declared.term.Term.{Term}
use Rattle.sort_term.specs.System.{System}
use Rattle.sort_term.specs.NodeTerms.{seen_term}
use Rattle.sort_term.proofs.NodeTerming.{term_stays}
use Rattle.unify.specs.Branches.{IsConfiguration}
use Rattle.path_condition.specs.Leaves.{SeenLeaf, seen_leaves}
use Rattle.path_condition.proofs.LeafLemmas.{configuration_valid, leaves_same}
use Rattle.probe_keys.proofs.Lengthened.{begins_both}
use Rattle.point_questions.specs.declared.posing.PosedPoint.{PosedPoint}
use Rattle.point_questions.specs.declared.searched.SearchedPoint.{SearchedPoint}
use Rattle.point_questions.specs.declared.searched.SearchedSide.{SearchedSide}
use Rattle.point_questions.specs.Posed.{SeenPosed, seen_posed}
use Rattle.point_questions.specs.Questions.{SeenSide, SeenPoint, seen_side, seen_point}
use Rattle.verdict.specs.Explored.{HasLeaves, IsExplored}

module _ {N : Type 0} (f g : N → Seen N) (x : Extends f g) where
  pub config_stays : (sys : System) (t : Term N) → IsConfiguration sys (seen_term f t) → seen_term g t ≡ seen_term f t
  config_stays sys t h = term_stays f g x t (configuration_valid sys (seen_term f t) h)

  pub posed_stays : (q : Problem) (y : PosedPoint N) → IsCondition (f y.condition) → IsConfiguration q.left (seen_term f y.left.term) → IsConfiguration q.right (seen_term f y.right.term) → seen_posed g y ≡ seen_posed f y
  posed_stays q y c l r =
      let make : Seen N → Term (Seen N) → Term (Seen N) → SeenPosed N = λ s t u. record { condition = s; left = t; right = u } in
      ap (λ s. make s (seen_term g y.left.term) (seen_term g y.right.term)) (x.keeps y.condition c.valid)
      ∙ ap (λ t. make (f y.condition) t (seen_term g y.right.term)) (config_stays q.left y.left.term l)
      ∙ ap (λ t. make (f y.condition) (seen_term f y.left.term) t) (config_stays q.right y.right.term r)

  pub side_stays : {S : Type 0} (sys : System) (y : SearchedSide S N) → IsConfiguration sys (seen_term f y.start.term) → HasLeaves sys (seen_side f y) → seen_side g y ≡ seen_side f y
  side_stays sys y h leaves =
      let make : Term (Seen N) → List (SeenLeaf N) → List (SeenLeaf N) → List (SeenLeaf N) → SeenSide N = λ t a b c. record { start = t; met = a; long = b; halted = c } in
      ap (λ t. make t (seen_leaves g y.met) (seen_leaves g y.long) (seen_leaves g y.halted)) (config_stays sys y.start.term h)
      ∙ ap (λ a. make (seen_term f y.start.term) a (seen_leaves g y.long) (seen_leaves g y.halted)) (leaves_same f g x sys y.met leaves.met)
      ∙ ap (λ b. make (seen_term f y.start.term) (seen_leaves f y.met) b (seen_leaves g y.halted)) (leaves_same f g x sys y.long leaves.long)
      ∙ ap (λ c. make (seen_term f y.start.term) (seen_leaves f y.met) (seen_leaves f y.long) c) (leaves_same f g x sys y.halted leaves.halted)

  module _ (q : Problem) (n k : _) (before now : List DataSort) (begins : BeginsWith now before) (y : SearchedPoint N) (is : IsExplored q n k before (seen_point f y)) where
    pub point_stays : seen_point g y ≡ seen_point f y
    point_stays =
        let make : Seen N → SeenSide N → SeenSide N → SeenPoint N = λ s a b. record { condition = s; left = a; right = b } in
        ap (λ s. make s (seen_side g y.left) (seen_side g y.right)) (x.keeps y.condition is.posed.condition.valid)
        ∙ ap (λ a. make (f y.condition) a (seen_side g y.right)) (side_stays q.left y.left is.posed.left is.left)
        ∙ ap (λ b. make (f y.condition) (seen_side f y.left) b) (side_stays q.right y.right is.posed.right is.right)

    -- over more variables
    abbrev pub explored_later : IsExplored q n k now (seen_point f y)
    explored_later = record {
      point = is.point;
      there = is.there;
      variables = is.variables;
      posed = is.posed;
      left = is.left;
      right = is.right;
      searched = is.searched;
      over = record { begins = begins_both is.variables before now is.over.begins begins; left = is.over.left; right = is.over.right };
    }
