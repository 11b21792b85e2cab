-- Which tests don't hold at a point, by its excluded flaws.
use Rattle.std.proofs.Common.{arith, ◌≡◌, ℕ, ◌<◌, ◌≤◌, true, IsSome, List, refl, sym, ◌∙◌, subst}
use Rattle.std.proofs.lemmas.Option.{same_Some}
use Rattle.data_value.specs.declared.DataSort.{DataSort}
use Rattle.data_value.specs.declared.Value.{Value}
use Rattle.data_value.specs.Nodes.{IsValuation}
use Rattle.data_value.specs.Truth.{truth}
use Rattle.sort_term.specs.declared.points.Point.{Point}
use Rattle.sort_term.specs.declared.problem.Problem.{Problem}
use Rattle.sort_term.specs.Runs.{IsLong, IsHalted}
use Rattle.sort_term.specs.Relation.{Side, left, right, IsPoint, StepsOf, InCutOf}
use Rattle.sort_term.specs.Relation as point
use Rattle.sort_term.specs.Simulation.{Test, void, outside, long, halted, HasTest}
use Rattle.sort_term.specs.Verdict.{ungrounded, rank}
use Rattle.sort_term.specs.NodeTerms.{tree_of}
use Rattle.sort_term.proofs.RunLemmas.{halted_short}
use Rattle.ground_step.specs.declared.verdict.Failure.{Failure}
use Rattle.ground_step.specs.declared.verdict.SideName.{SideName}
use Rattle.ground_step.specs.declared.verdict.SideName.TheVariants as side
use Rattle.ground_step.specs.Shows.{side_of, Witness}
use Rattle.ground_step.specs.VerdictLaws.{NoTestBefore}
use Rattle.point_questions.specs.declared.question.Flaw.{Flaw}
use Rattle.point_questions.specs.declared.question.Flaw.TheVariants.{Outside, Long, Halted, RightFails, RightMisses, LeftFails}
use Rattle.point_questions.specs.Posed.{IsPosed, trees}
use Rattle.point_questions.specs.Questions.{SeenPoint, posed_of, searched_side, leaf_of, flaw_rank, IsOutsideFlaw, IsRunFlaw}
use Rattle.point_questions.specs.QuestionLaws.{IsSearched, IsExcluded, Excludes}
use Rattle.point_questions.proofs.Excluding.{meant, inside, no_long, no_halted}
use Rattle.verdict.specs.Findings.{IsFirstTestBy, IsUngroundedBy}
use Rattle.verdict.specs.Kinds.{kind_at}
use Rattle.verdict.specs.Shown.{verdict_by}

module _ {N : Type 0} (q : Problem) (p : Point) (variables : List DataSort) (x : SeenPoint N) (posed : IsPosed variables q p (posed_of x)) where
  pub not_void : (v : List Value) → IsValuation variables v → truth x.condition v ≡ true → ¬ point.Void q p
  not_void v fits holds none =
      let r = (posed.exact (trees v) (tree_of v x.left.start) (tree_of v x.right.start)).1 (v, refl, record { fits = fits; holds = holds; left = refl; right = refl }) in
      none (trees v) r.holds

  pub not_outside : (s : SideName) → IsExcluded q variables x (Outside s) → ¬ point.Outside q p (side_of s)
  not_outside s e f =
      let m = meant q p variables x posed s f.0 f.1 in
      f.2 (subst (InCutOf q (side_of s)) m.is (inside q variables x s e m.v m.fits m.holds))

  module _ (n : ℕ) (searched : IsSearched q n variables x) (s : SideName) (excluded : (i : ℕ) → IsSome (leaf_of x (Long s i)) → IsExcluded q variables x (Long s i)) where
    pub not_long : ¬ point.Long q n p (side_of s)
    not_long f =
        let m = meant q p variables x posed s f.0 f.1 in
        no_long q variables x n searched s m.v m.fits m.holds excluded f.2.0 (subst (λ t. IsLong (StepsOf q (side_of s)) (InCutOf q (side_of s)) n t f.2.0) (sym m.is) f.2.1)

    pub not_halted : ((i : ℕ) → IsSome (leaf_of x (Halted s i)) → IsExcluded q variables x (Halted s i)) → ¬ point.Halted q p (side_of s)
    not_halted stops f =
        let m = meant q p variables x posed s f.0 f.1 in
        let start = tree_of m.v (searched_side x s).start in
        let run : IsHalted (StepsOf q (side_of s)) (InCutOf q (side_of s)) start f.2.0 = subst (λ t. IsHalted (StepsOf q (side_of s)) (InCutOf q (side_of s)) t f.2.0) (sym m.is) f.2.1 in
        no_halted q variables x n searched s m.v m.fits m.holds stops f.2.0 run (halted_short (StepsOf q (side_of s)) (InCutOf q (side_of s)) start n f.2.0 (no_long q variables x n searched s m.v m.fits m.holds excluded) run)

-- no test before this one holds at the point
NoneFirst : Problem → ℕ → Point → ℕ → Type 0
NoneFirst q n p r = (u : Test) → rank u < r → ¬ HasTest q n p u

-- the same of the point by its number
numbered : (q : Problem) (n k : ℕ) (p : Point) (t : Test) → IsPoint q k p → NoneFirst q n p (rank t) → NoTestBefore q n k t
unfolding NoneFirst
numbered q n k p t there none r is u l h = none u l (subst (λ y. HasTest q n y u) (same_Some r p (sym is ∙ there)) h)

module _ {N : Type 0} (q : Problem) (n : ℕ) (p : Point) (variables : List DataSort) (x : SeenPoint N) (posed : IsPosed variables q p (posed_of x)) (v : List Value) (fits : IsValuation variables v) (holds : truth x.condition v ≡ true) where
  module _ (s : SideName) (before : (flaw : Flaw) → IsOutsideFlaw flaw → IsSome (leaf_of x flaw) → flaw_rank flaw < flaw_rank (Outside s) → IsExcluded q variables x flaw) where
    first_outside : NoneFirst q n p (flaw_rank (Outside s))
    unfolding NoneFirst
    first_outside void l = not_void q p variables x posed v fits holds
    first_outside (outside left) l = not_outside q p variables x posed side.Left (before (Outside side.Left) tt refl l)
    first_outside (outside right) l = not_outside q p variables x posed side.Right (before (Outside side.Right) tt refl l)
    first_outside (long left) l = absurd (most s l)
      where
        most : (s : SideName) → 3 < flaw_rank (Outside s) → ⊥
        most side.Left m = omega (arith, m)
        most side.Right m = omega (arith, m)
    first_outside (long right) l = absurd (most s l)
      where
        most : (s : SideName) → 4 < flaw_rank (Outside s) → ⊥
        most side.Left m = omega (arith, m)
        most side.Right m = omega (arith, m)
    first_outside (halted left) l = absurd (most s l)
      where
        most : (s : SideName) → 5 < flaw_rank (Outside s) → ⊥
        most side.Left m = omega (arith, m)
        most side.Right m = omega (arith, m)
    first_outside (halted right) l = absurd (most s l)
      where
        most : (s : SideName) → 6 < flaw_rank (Outside s) → ⊥
        most side.Left m = omega (arith, m)
        most side.Right m = omega (arith, m)

  module _ (searched : IsSearched q n variables x) (out : Excludes IsOutsideFlaw q variables x) (r : ℕ) (low : r ≤ 6) (before : (flaw : Flaw) → IsRunFlaw flaw → IsSome (leaf_of x flaw) → flaw_rank flaw < r → IsExcluded q variables x flaw) where
    no_long_of : (s : SideName) → ((i : ℕ) → flaw_rank (Long s i) < r) → ¬ point.Long q n p (side_of s)
    no_long_of s l = not_long q p variables x posed n searched s (λ i some. before (Long s i) tt some (l i))

    first_run : NoneFirst q n p r
    unfolding NoneFirst
    first_run void l = not_void q p variables x posed v fits holds
    first_run (outside left) l = not_outside q p variables x posed side.Left (out (Outside side.Left) tt refl)
    first_run (outside right) l = not_outside q p variables x posed side.Right (out (Outside side.Right) tt refl)
    first_run (long left) l = no_long_of side.Left (λ i. l)
    first_run (long right) l = no_long_of side.Right (λ i. l)
    first_run (halted left) l = not_halted q p variables x posed n searched side.Left (λ i some. before (Long side.Left i) tt some (omega (arith, l))) (λ i some. before (Halted side.Left i) tt some l)
    first_run (halted right) l = absurd (omega (arith, l, low))

-- the side of a witness's failure
outside_by : (q : Problem) (n k : ℕ) (s : SideName) (f : Failure) → Witness q n (ungrounded k (outside (side_of s))) f → NoTestBefore q n k (outside (side_of s)) → IsFirstTestBy q n k (outside (side_of f.side)) f
outside_by q n k s f w none = subst (λ (z : Side). IsFirstTestBy q n k (outside z) f) w.at.1 (w, none)

long_by : (q : Problem) (n k : ℕ) (s : SideName) (f : Failure) → Witness q n (ungrounded k (long (side_of s))) f → NoTestBefore q n k (long (side_of s)) → IsFirstTestBy q n k (long (side_of f.side)) f
long_by q n k s f w none = subst (λ (z : Side). IsFirstTestBy q n k (long z) f) w.at.1 (w, none)

halted_by : (q : Problem) (n k : ℕ) (s : SideName) (f : Failure) → Witness q n (ungrounded k (halted (side_of s))) f → NoTestBefore q n k (halted (side_of s)) → IsFirstTestBy q n k (halted (side_of f.side)) f
halted_by q n k s f w none = subst (λ (z : Side). IsFirstTestBy q n k (halted z) f) w.at.1 (w, none)

-- the ranks of flaws are those of their tests
module _ {N : Type 0} (q : Problem) (n k : ℕ) (p : Point) (there : IsPoint q k p) (variables : List DataSort) (x : SeenPoint N) (posed : IsPosed variables q p (posed_of x)) (v : List Value) (fits : IsValuation variables v) (holds : truth x.condition v ≡ true) (f : Failure) where
  -- a state outside its cut, by the first question that is true
  pub outside_found : (flaw : Flaw) → IsOutsideFlaw flaw → ((g : Flaw) → IsOutsideFlaw g → IsSome (leaf_of x g) → flaw_rank g < flaw_rank flaw → IsExcluded q variables x g) → Witness q n (kind_at k flaw) f → IsUngroundedBy q n k (verdict_by flaw f)
  outside_found (Outside side.Left) of before w = outside_by q n k side.Left f w (numbered q n k p (outside left) there (first_outside q n p variables x posed v fits holds side.Left before))
  outside_found (Outside side.Right) of before w = outside_by q n k side.Right f w (numbered q n k p (outside right) there (first_outside q n p variables x posed v fits holds side.Right before))
  outside_found (Long s i) of before w = absurd of
  outside_found (Halted s i) of before w = absurd of
  outside_found (RightFails i) of before w = absurd of
  outside_found (RightMisses i) of before w = absurd of
  outside_found (LeftFails i) of before w = absurd of

  -- a run that doesn't come to the cut
  pub run_found : IsSearched q n variables x → Excludes IsOutsideFlaw q variables x → (flaw : Flaw) → IsRunFlaw flaw → ((g : Flaw) → IsRunFlaw g → IsSome (leaf_of x g) → flaw_rank g < flaw_rank flaw → IsExcluded q variables x g) → Witness q n (kind_at k flaw) f → IsUngroundedBy q n k (verdict_by flaw f)
  run_found searched out (Outside s) of before w = absurd of
  run_found searched out (Long side.Left i) of before w = long_by q n k side.Left f w (numbered q n k p (long left) there (first_run q n p variables x posed v fits holds searched out 3 (omega arith) before))
  run_found searched out (Long side.Right i) of before w = long_by q n k side.Right f w (numbered q n k p (long right) there (first_run q n p variables x posed v fits holds searched out 4 (omega arith) before))
  run_found searched out (Halted side.Left i) of before w = halted_by q n k side.Left f w (numbered q n k p (halted left) there (first_run q n p variables x posed v fits holds searched out 5 (omega arith) before))
  run_found searched out (Halted side.Right i) of before w = halted_by q n k side.Right f w (numbered q n k p (halted right) there (first_run q n p variables x posed v fits holds searched out 6 (omega arith) before))
  run_found searched out (RightFails i) of before w = absurd of
  run_found searched out (RightMisses i) of before w = absurd of
  run_found searched out (LeftFails i) of before w = absurd of
