-- From what is known of the points, one after the other, to the verdict.
use Rattle.std.proofs.Common.{arith, ◌≡◌, ℕ, ◌+◌, ◌<◌, ◌≤◌, ◌⊎◌, inl, inr, length, Option, Some, None, Bool, true, false, MatchBool, sym, subst, ◌∙◌}
use Rattle.std.specs.Bool.{then_some}
use Rattle.std.specs.Option.{option_or}
use Rattle.std.proofs.lemmas.Bool.{cases_lt}
use Rattle.std.proofs.lemmas.Option.{slice_get_within, same_Some}
use Rattle.sort_term.specs.declared.points.Point.{Point}
use Rattle.sort_term.specs.declared.problem.Problem.{Problem}
use Rattle.sort_term.specs.Relation.{IsPoint, RightMisses, RightFails, LeftFails}
use Rattle.sort_term.specs.Simulation.{Test, IsGrounded, IsWellGroundedAt, IsWellGrounded, SideMisses, RightMatches, LeftMatches, EachPoint, IsMatchedSimulation}
use Rattle.sort_term.specs.Verdict.{FirstTest, AtPoint, NoneBefore, IsVerdict}
use Rattle.sort_term.specs.Verdict as kind
use Rattle.sort_term.specs.Relation as on
use Rattle.sort_term.proofs.GroundLemmas.{well_grounded, no_test}
use Rattle.sort_term.proofs.VerdictLemmas.{fails_misses}

-- of the first k points this is the first that has P; where it is none, all have Q
abbrev pub IsFirstOf : Problem → (Point → Type 0) → (Point → Type 0) → ℕ → Option ℕ → Type 0
IsFirstOf q P Q k None = (j : ℕ) (p : Point) → j < k → IsPoint q j p → Q p
IsFirstOf q P Q k (Some i) = AtPoint q P i × NoneBefore q P i

-- what is known of the first k points, which are all grounded: the first where the right fails, and the first where the left fails
pub record AreJudged (q : Problem) (n k : ℕ) (unmatched refined : Option ℕ) : Type 0 where
  pub grounded : (j : ℕ) (p : Point) → j < k → IsPoint q j p → IsWellGroundedAt q n p
  pub rights : IsFirstOf q (RightFails q) (RightMatches q) k unmatched
  pub lefts : IsFirstOf q (LeftFails q) (LeftMatches q) k refined

-- the point with a number is one
same_point : (q : Problem) (j k : ℕ) (p r : Point) → j ≡ k → IsPoint q j r → IsPoint q k p → r ≡ p
same_point q j k p r e is there = same_Some r p (sym (subst (λ i. IsPoint q i r) e is) ∙ there)

-- one point more, which has P or Q
one_more : (q : Problem) (P Q : Point → Type 0) → ((p : Point) → Q p → ¬ P p) → (k : ℕ) (o : Option ℕ) (b : Bool) (p : Point) → IsPoint q k p → MatchBool b (P p) (Q p) → IsFirstOf q P Q k o → IsFirstOf q P Q (k + 1) (option_or o (then_some b k))
one_more q P Q never k (Some i) b p there m f = f
one_more q P Q never k None true p there m f = ((p, there, m), λ j r l is h. never r (f j r l is) h)
one_more q P Q never k None false p there m f = λ j r l is. go j r l is (cases_lt j k)
  where
    go : (j : ℕ) (r : Point) → j < k + 1 → IsPoint q j r → (j < k) ⊎ (k ≤ j) → Q r
    go j r l is (inl h) = f j r h is
    go j r l is (inr h) = let e : j ≡ k = omega arith in subst Q (sym (same_point q j k p r e is there)) m

never_misses : (q : Problem) (p : Point) → RightMatches q p → ¬ RightMisses q p
never_misses q p matches f = let m = matches f.0 f.1 f.2 f.3 f.4.0 f.4.1 in f.4.2 m.0 m.1 m.2

never_right : (q : Problem) (p : Point) → RightMatches q p → ¬ RightFails q p
never_right q p matches f = never_misses q p matches (fails_misses q p f)

never_left : (q : Problem) (p : Point) → LeftMatches q p → ¬ LeftFails q p
never_left q p matches f = let m = matches f.0 f.1 f.2 f.3 f.4.0 f.4.1 in f.4.2 m.0 m.1 m.2

module _ (q : Problem) (n : ℕ) where
  pub judged_none : AreJudged q n 0 None None
  judged_none = record { grounded = λ j p l is. absurd (omega arith); rights = λ j p l is. absurd (omega arith); lefts = λ j p l is. absurd (omega arith) }

  pub judged_more : (k : ℕ) (unmatched refined : Option ℕ) (right left : Bool) (p : Point) → IsPoint q k p → IsWellGroundedAt q n p × MatchBool right (RightFails q p) (RightMatches q p) × MatchBool left (LeftFails q p) (LeftMatches q p) → AreJudged q n k unmatched refined → AreJudged q n (k + 1) (option_or unmatched (then_some right k)) (option_or refined (then_some left k))
  judged_more k unmatched refined right left p there found so_far = record {
    grounded = λ j r l is. go j r l is (cases_lt j k);
    rights = one_more q (RightFails q) (RightMatches q) (never_right q) k unmatched right p there found.1 so_far.rights;
    lefts = one_more q (LeftFails q) (LeftMatches q) (never_left q) k refined left p there found.2 so_far.lefts;
  }
    where
      go : (j : ℕ) (r : Point) → j < k + 1 → IsPoint q j r → (j < k) ⊎ (k ≤ j) → IsWellGroundedAt q n r
      go j r l is (inl h) = so_far.grounded j r h is
      go j r l is (inr h) = let e : j ≡ k = omega arith in subst (IsWellGroundedAt q n) (sym (same_point q j k p r e is there)) found.0

  module _ (most : 1 ≤ n) where
    -- the first point that isn't grounded
    pub first_ungrounded : (k : ℕ) (unmatched refined : Option ℕ) (t : Test) (p : Point) → IsPoint q k p → FirstTest q n t p → AreJudged q n k unmatched refined → IsVerdict q n (kind.ungrounded k t)
    first_ungrounded k unmatched refined t p there first so_far = ((p, there, first), λ j r l is h. no_test q n most r (so_far.grounded j r l is) h.0 h.1)

    -- all points are judged
    module _ (k : ℕ) (all : length q.points.points ≤ k) where
      within : (j : ℕ) (p : Point) → IsPoint q j p → j < k
      within j p is = let l = slice_get_within q.points.points j p is in omega arith

      pub all_grounded : (unmatched refined : Option ℕ) → AreJudged q n k unmatched refined → IsWellGrounded q n
      all_grounded unmatched refined judged j p is = judged.grounded j p (within j p is) is

      grounded : (unmatched refined : Option ℕ) → AreJudged q n k unmatched refined → IsGrounded q n
      grounded unmatched refined judged = well_grounded q n most (all_grounded unmatched refined judged)

      pub all_rights : (refined : Option ℕ) → AreJudged q n k None refined → EachPoint q (RightMatches q)
      all_rights refined judged j p is = judged.rights j p (within j p is) is

      pub simulated : (refined : Option ℕ) → AreJudged q n k None refined → IsMatchedSimulation q
      simulated refined judged j p is = λ v a b r b' h. inl (all_rights refined judged j p is v a b r b' h)

      -- no side misses at a point, where none of the left does
      no_miss : (refined : Option ℕ) → AreJudged q n k None refined → (j : ℕ) (p : Point) → IsPoint q j p → ¬ LeftFails q p → ¬ SideMisses q p
      no_miss refined judged j p is never (inl m) = never_misses q p (all_rights refined judged j p is) m
      no_miss refined judged j p is never (inr f) = never f

      pub all_lefts : (unmatched : Option ℕ) → AreJudged q n k unmatched None → (j : ℕ) (p : Point) → IsPoint q j p → LeftMatches q p
      all_lefts unmatched judged j p is = judged.lefts j p (within j p is) is

      pub is_unmatched : (i : ℕ) (refined : Option ℕ) → AreJudged q n k (Some i) refined → IsVerdict q n (kind.unmatched i)
      is_unmatched i refined judged = (grounded (Some i) refined judged, judged.rights.0, judged.rights.1)

      pub is_refined : (i : ℕ) → AreJudged q n k None (Some i) → IsVerdict q n (kind.refines i on.left)
      is_refined i judged =
          let first = judged.lefts.0 in (
            grounded None (Some i) judged,
            λ j p is. never_right q p (all_rights (Some i) judged j p is),
            (first.0, first.1, (first.2, never_misses q first.0 (all_rights (Some i) judged i first.0 first.1))),
            λ j p before is. no_miss (Some i) judged j p is (judged.lefts.1 j p before is),
          )

      pub is_equivalent : AreJudged q n k None None → IsVerdict q n kind.equivalent
      is_equivalent judged = (grounded None None judged, λ j p is. no_miss None judged j p is (never_left q p (all_lefts None judged j p is)))
