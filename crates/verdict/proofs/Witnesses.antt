-- A failure by the run of a flaw's leaf witnesses the flaw's kind.
use Rattle.std.proofs.Common.{◌≡◌, ℕ, ◌≤◌, List, [], ◌∷◌, length, refl, sym, ap, ◌∙◌, subst}
use Rattle.data_value.specs.declared.Value.{Value}
use Rattle.sort_term.specs.declared.points.Point.{Point}
use Rattle.sort_term.specs.declared.problem.Problem.{Problem}
use Rattle.sort_term.specs.Tree.{Tree}
use Rattle.sort_term.specs.Runs.{IsRun, Ends, rules_of, reached, IsMet, IsLong, IsHalted}
use Rattle.sort_term.specs.Relation.{Side, left, right, IsPoint, Relates, Related, of_side, StepsOf, InCutOf, SucceedsOf, IsUndefined}
use Rattle.sort_term.proofs.StepRuns.{one_run}
use Rattle.ground_step.specs.declared.verdict.Failure.{Failure}
use Rattle.ground_step.specs.Fit.{plain_trees}
use Rattle.ground_step.specs.Shows.{side_of, reached_tree, IsAt, ShowsKind, Witness}
use Rattle.point_questions.specs.declared.question.Flaw.{Flaw}
use Rattle.point_questions.specs.declared.question.Flaw.TheVariants.{Outside, Long, Halted, RightFails, RightMisses, LeftFails}
use Rattle.point_questions.specs.Questions.{flaw_side}
use Rattle.point_questions.specs.QuestionLaws.{IsFlaw}
use Rattle.verdict.specs.Failing.{IsFailureBy}
use Rattle.verdict.specs.Kinds.{kind_at}

-- the rules alone fix the runs of a side
one_run_of : (q : Problem) (side : Side) (s : Tree) (xs ys : List (ℕ × Tree)) → IsRun (StepsOf q side) s xs → IsRun (StepsOf q side) s ys → rules_of xs ≡ rules_of ys → xs ≡ ys
one_run_of q left s xs ys = one_run q.left q.fits.left_semantics q.left_program s xs ys
one_run_of q right s xs ys = one_run q.right q.fits.right_semantics q.right_program s xs ys

no_rules : {S : Type 0} (xs : List (ℕ × S)) → rules_of xs ≡ [] → xs ≡ []
no_rules [] e = refl
no_rules (x ∷ xs) e = absurd (cc)

-- the flaw's side is that of its kind
at_side : (k : ℕ) (flaw : Flaw) → IsAt (kind_at k flaw) k (flaw_side flaw)
at_side k (Outside s) = (refl, refl)
at_side k (Long s i) = (refl, refl)
at_side k (Halted s i) = (refl, refl)
at_side k (RightFails i) = (refl, refl)
at_side k (RightMisses i) = (refl, refl)
at_side k (LeftFails i) = (refl, refl)

module _ (q : Problem) (n k : ℕ) (p : Point) (there : IsPoint q k p) (values : List Value) (rules : List ℕ) (f : Failure) where
  module _ (side : Side) (h : IsFailureBy q k side values rules f) (a b : Tree) (pair : Relates q p (plain_trees values) a b) where
    left_same : a ≡ f.left.term
    left_same = sym pair.left ∙ (h.pair p there).left

    right_same : b ≡ f.right.term
    right_same = sym pair.right ∙ (h.pair p there).right

    start_same : of_side side a b ≡ of_side side f.left.term f.right.term
    start_same = ap (λ x. of_side side x b) left_same ∙ ap (of_side side f.left.term) right_same

    -- a run by the same rules from the pair's state is the failure's
    module _ (P : Tree → List (ℕ × Tree) → Type 0) (runs : (s : Tree) (run : List (ℕ × Tree)) → P s run → IsRun (StepsOf q side) s run) (t : Tree) (e : Ends (P (of_side side a b)) (of_side side a b) rules t) where
      here : P (of_side side f.left.term f.right.term) e.run
      here = subst (λ s. P s e.run) start_same e.has

      run_same : e.run ≡ h.run.run
      run_same = one_run_of q side (of_side side f.left.term f.right.term) e.run h.run.run (runs (of_side side f.left.term f.right.term) e.run here) h.run.has (e.by ∙ sym h.run.by)

      has_run : P (of_side side f.left.term f.right.term) h.run.run
      has_run = subst (P (of_side side f.left.term f.right.term)) run_same here

      last_same : t ≡ reached_tree f.reached
      last_same =
          sym e.last ∙ ap (λ s. reached s e.run) start_same ∙ ap (reached (of_side side f.left.term f.right.term)) run_same ∙ h.run.last

  -- what the failure's run shows
  shows : (flaw : Flaw) (h : IsFailureBy q k (flaw_side flaw) values rules f) (a b t : Tree) → Relates q p (plain_trees values) a b → IsFlaw q n flaw a b rules t → ShowsKind q n (kind_at k flaw) f h.run.run
  shows (Outside s) h a b t pair flaw =
      let side = flaw_side (Outside s) in
      let none : rules ≡ [] = flaw.0 in
      let run_none = no_rules h.run.run (h.run.by ∙ none) in
      let start : of_side side f.left.term f.right.term ≡ reached_tree f.reached = ap (reached (of_side side f.left.term f.right.term)) (sym run_none) ∙ h.run.last in
      let last : t ≡ reached_tree f.reached = sym flaw.1 ∙ start_same side h a b pair ∙ start in
      (run_none, subst (λ x. ¬ InCutOf q x (reached_tree f.reached)) (sym h.on) (subst (λ x. ¬ InCutOf q side x) last flaw.2))
  shows (Long s i) h a b t pair flaw =
      let side = flaw_side (Long s i) in
      let run = has_run side h a b pair (IsLong (StepsOf q side) (InCutOf q side) n) (λ x run is. is.runs) t flaw in
      subst (λ x. IsLong (StepsOf q x) (InCutOf q x) n (of_side x f.left.term f.right.term) h.run.run) (sym h.on) run
  shows (Halted s i) h a b t pair flaw =
      let side = flaw_side (Halted s i) in
      let run = has_run side h a b pair (λ x ys. IsHalted (StepsOf q side) (InCutOf q side) x ys × (length ys ≤ n)) (λ x run is. is.0.runs) t flaw in
      subst (λ x. IsHalted (StepsOf q x) (InCutOf q x) (of_side x f.left.term f.right.term) h.run.run) (sym h.on) run.0
  shows (RightFails i) h a b t pair flaw =
      let Met = λ (x : Tree) (ys : List (ℕ × Tree)). IsMet (StepsOf q right) (InCutOf q right) x ys × (length ys ≤ n) in
      let run = has_run right h a b pair Met (λ x run is. is.0.runs) t flaw.0 in
      let last = last_same right h a b pair Met (λ x run is. is.0.runs) t flaw.0 in
      let from = left_same right h a b pair in
      (run.0, subst (λ y. (a' : Tree) → SucceedsOf q left f.left.term a' → ¬ Related q a' y) last (subst (λ x. (a' : Tree) → SucceedsOf q left x a' → ¬ Related q a' t) from flaw.1), subst (λ x. (a' : Tree) → SucceedsOf q left x a' → ¬ IsUndefined q a') from flaw.2)
  shows (RightMisses i) h a b t pair flaw =
      let Met = λ (x : Tree) (ys : List (ℕ × Tree)). IsMet (StepsOf q right) (InCutOf q right) x ys × (length ys ≤ n) in
      let run = has_run right h a b pair Met (λ x run is. is.0.runs) t flaw.0 in
      let last = last_same right h a b pair Met (λ x run is. is.0.runs) t flaw.0 in
      let from = left_same right h a b pair in
      (run.0, subst (λ y. (a' : Tree) → SucceedsOf q left f.left.term a' → ¬ Related q a' y) last (subst (λ x. (a' : Tree) → SucceedsOf q left x a' → ¬ Related q a' t) from flaw.1))
  shows (LeftFails i) h a b t pair flaw =
      let Met = λ (x : Tree) (ys : List (ℕ × Tree)). IsMet (StepsOf q left) (InCutOf q left) x ys × (length ys ≤ n) in
      let run = has_run left h a b pair Met (λ x run is. is.0.runs) t flaw.0 in
      let last = last_same left h a b pair Met (λ x run is. is.0.runs) t flaw.0 in
      let from = right_same left h a b pair in
      (run.0, subst (λ y. (b' : Tree) → SucceedsOf q right f.right.term b' → ¬ Related q y b') last (subst (λ x. (b' : Tree) → SucceedsOf q right x b' → ¬ Related q t b') from flaw.1))

  -- a failure by the rules of a flaw's run, under values that show the flaw, witnesses the flaw's kind
  pub witnessed : (flaw : Flaw) → IsFailureBy q k (flaw_side flaw) values rules f → (a b t : Tree) → Relates q p (plain_trees values) a b → IsFlaw q n flaw a b rules t → Witness q n (kind_at k flaw) f
  witnessed flaw h a b t pair shown = record {
    at = subst (λ j. IsAt (kind_at k flaw) j (side_of f.side)) (sym h.place) (subst (IsAt (kind_at k flaw) k) (sym h.on) (at_side k flaw));
    point = p;
    there = subst (λ j. IsPoint q j p) (sym h.place) there;
    pair = subst (λ vs. Relates q p (plain_trees vs) f.left.term f.right.term) (sym h.under) (h.pair p there);
    run = h.run.run;
    runs = subst (λ x. IsRun (StepsOf q x) (of_side x f.left.term f.right.term) h.run.run) (sym h.on) h.run.has;
    rules = h.run.by ∙ sym h.by;
    side = h.reached ∙ sym h.on;
    last = subst (λ x. reached (of_side x f.left.term f.right.term) h.run.run ≡ reached_tree f.reached) (sym h.on) h.run.last;
    shown = shows flaw h a b t pair shown;
  }
