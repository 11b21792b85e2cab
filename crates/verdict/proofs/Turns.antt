-- Questions, one more at a time.
use Rattle.std.proofs.Common.{◌≡◌, ℕ, zero, suc, ◌+◌, ◌<◌, List, [], ◌∷◌, length, map, take, get_or, Some, refl, sym, ap, ◌∙◌, subst}
use Rattle.std.specs.Prelude.{option_map}
use Rattle.std.proofs.lemmas.Option.{slice_get-map}
use Rattle.data_value.specs.declared.DataSort.{DataSort}
use Rattle.data_value.specs.declared.Value.{Value}
use Rattle.data_value.specs.Nodes.{Seen}
use Rattle.sort_term.proofs.Standing.{get-some}
use Rattle.probe_keys.proofs.Turns.{all_more}
use Rattle.prover.specs.Answers.{IsNeverTrue, IsTrueUnder}
use Rattle.point_questions.specs.declared.question.Question.{Question}
use Rattle.point_questions.specs.Questions.{SeenQuestion, seen_questions}
use Rattle.verdict.specs.Decided.{AreNeverTrue, IsFoundFirst}

take_map : {X Y : Type 0} (f : X → Y) (i : ℕ) (xs : List X) → take i (map f xs) ≡ map f (take i xs)
take_map f zero xs = refl
take_map f (suc i) [] = refl
take_map f (suc i) (x ∷ xs) = ap (λ ys. f x ∷ ys) (take_map f i xs)

module _ {N : Type 0} (look : N → Seen N) (variables : List DataSort) (ys : List (Question N)) (i : ℕ) (y : Question N) (l : i < length ys) (is : y ≡ get_or ys i y) (so_far : AreNeverTrue variables (seen_questions look (take i ys))) where
  seen : Question N → SeenQuestion N
  seen z = record { flaw = z.flaw; formula = look z.formula }

  -- one more that is never true
  pub never_more : IsNeverTrue variables (look y.formula) → AreNeverTrue variables (seen_questions look (take (i + 1) ys))
  unfolding seen
  never_more never = (all_more (λ (z : SeenQuestion N). IsNeverTrue variables z.formula) seen ys i y l is).1 (so_far, never)

  -- the first that is true
  pub first_is : (values : List Value) → IsTrueUnder variables (look y.formula) values → IsFoundFirst variables (seen_questions look ys) (record { flaw = y.flaw; values = values })
  unfolding seen
  first_is values holds = record {
    place = i;
    question = seen y;
    there = slice_get-map seen ys i ∙ ap (option_map seen) (get-some ys i y l ∙ ap Some (sym is));
    asks = refl;
    holds = holds;
    before = subst (AreNeverTrue variables) (sym (take_map seen i ys)) so_far;
  }
