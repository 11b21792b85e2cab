-- Both sides of a point are searched, one after the other.
use Rattle.std.proofs.Common.{◌≡◌, ℕ, List, sym, ap, ◌∙◌, subst}
use Rattle.data_value.specs.declared.DataSort.{DataSort}
use Rattle.data_value.specs.declared.Value.{Value}
use Rattle.data_value.specs.Nodes.{Seen, Extends, IsValuation}
use Rattle.data_value.specs.Truth.{IsCondition}
use Rattle.sort_term.specs.declared.problem.Problem.{Problem}
use Rattle.sort_term.specs.declared.term.Left.{Left}
use Rattle.sort_term.specs.declared.term.Right.{Right}
use Rattle.sort_term.specs.declared.term.Term.{Term}
use Rattle.sort_term.specs.Relation.{left, right, StepsOf, InCutOf}
use Rattle.sort_term.specs.NodeTerms.{seen_term}
use Rattle.unify.specs.Branches.{IsConfiguration}
use Rattle.ground_step.specs.declared.verdict.SideName.{SideName}
use Rattle.ground_step.specs.declared.verdict.SideName.TheVariants as side
use Rattle.ground_step.specs.Shows.{side_of}
use Rattle.point_questions.specs.declared.posing.PosedPoint.{PosedPoint}
use Rattle.point_questions.specs.declared.searched.SearchedSide.{SearchedSide}
use Rattle.point_questions.specs.Posed.{SeenPosed, seen_posed}
use Rattle.point_questions.specs.Questions.{SeenSide, seen_side, searched_side}
use Rattle.point_questions.specs.QuestionLaws.{IsSearchedAt}
use Rattle.verdict.specs.Explored.{HasLeaves, IsExploredSide, AreExplored}
use Rattle.verdict.proofs.Kept.{config_stays, side_stays}

abbrev seen_side_start : {N : Type 0} → SeenSide N → Term (Seen N)
seen_side_start z = z.start

module _ {N : Type 0} (f g h : N → Seen N) (x : Extends f g) (y : Extends g h) (q : Problem) (n : ℕ) (variables later : List DataSort) (same : later ≡ variables) (posed : PosedPoint N) (c : IsCondition (f posed.condition)) (l : IsConfiguration q.left (seen_term f posed.left.term)) (r : IsConfiguration q.right (seen_term f posed.right.term))
    (first : SearchedSide Left N) (left_is : IsExploredSide q.left q.left_program q.points.left_cuts n variables (f posed.condition) (seen_term f posed.left.term) (seen_side g first))
    (second : SearchedSide Right N) (right_is : IsExploredSide q.right q.right_program q.points.right_cuts n later (g posed.condition) (seen_term g posed.right.term) (seen_side h second)) where
  condition_mid : g posed.condition ≡ f posed.condition
  condition_mid = x.keeps posed.condition c.valid

  condition_last : h posed.condition ≡ f posed.condition
  condition_last = y.keeps posed.condition (subst IsCondition (sym condition_mid) c).valid ∙ condition_mid

  first_stays : seen_side h first ≡ seen_side g first
  first_stays = side_stays g h y q.left first (subst (IsConfiguration q.left) (sym left_is.from) l) left_is.leaves

  right_start : seen_side_start (seen_side h second) ≡ seen_term f posed.right.term
  right_start = right_is.from ∙ config_stays f g x q.right posed.right.term r

  pub both_explored : AreExplored q n variables (seen_posed f posed) (record { condition = h posed.condition; left = seen_side h first; right = seen_side h second })
  both_explored = record {
    from =
        let make : Seen N → Term (Seen N) → Term (Seen N) → SeenPosed N = λ s a b. record { condition = s; left = a; right = b } in
        ap (λ s. make s (seen_side_start (seen_side h first)) (seen_side_start (seen_side h second))) condition_last
        ∙ ap (λ a. make (f posed.condition) a (seen_side_start (seen_side h second))) (ap seen_side_start first_stays ∙ left_is.from)
        ∙ ap (λ b. make (f posed.condition) (seen_term f posed.left.term) b) right_start;
    left = subst (HasLeaves q.left) (sym first_stays) left_is.leaves;
    right = right_is.leaves;
    searched = searched;
  }
    where
      searched : (v : List Value) → IsValuation variables v → (s : SideName) → IsSearchedAt (StepsOf q (side_of s)) (InCutOf q (side_of s)) n (h posed.condition) (searched_side (record { condition = h posed.condition; left = seen_side h first; right = seen_side h second }) s) v
      searched v fits side.Left =
          subst (λ s. IsSearchedAt (StepsOf q left) (InCutOf q left) n s (seen_side h first) v) (sym condition_last)
          (subst (λ z. IsSearchedAt (StepsOf q left) (InCutOf q left) n (f posed.condition) z v) (sym first_stays) (left_is.found v fits))
      searched v fits side.Right =
          subst (λ s. IsSearchedAt (StepsOf q right) (InCutOf q right) n s (seen_side h second) v) (condition_mid ∙ sym condition_last)
          (right_is.found v (subst (λ ss. IsValuation ss v) (sym same) fits))
