-- From what is found of the points, one after the other, to the verdict.
use Rattle.std.proofs.Common.{arith, ◌≡◌, ℕ, ◌+◌, ◌<◌, ◌≤◌, ◌⊎◌, inl, inr, length, sym, subst}
use Rattle.std.proofs.lemmas.Bool.{cases_lt}
use Rattle.std.proofs.lemmas.Option.{slice_get_within, slice_get_cases}
use Rattle.sort_term.specs.declared.points.Point.{Point}
use Rattle.sort_term.specs.declared.problem.Problem.{Problem}
use Rattle.sort_term.specs.Relation.{IsPoint, RightMisses, RightFails, LeftFails}
use Rattle.sort_term.specs.Simulation.{Test, outside, long, halted, IsGrounded, IsWellGroundedAt, IsWellGrounded, IsUngrounded, SideMisses, RightMatches, LeftMatches, RightIsExcused, IsCutSimulation, IsMatchedSimulation, IsMatchedBisimulation}
use Rattle.sort_term.specs.Verdict.{NoneBefore, ungrounded, unmatched, refines}
use Rattle.sort_term.proofs.GroundLemmas.{well_grounded, no_test}
use Rattle.ground_step.specs.declared.verdict.Failure.{Failure}
use Rattle.ground_step.specs.declared.verdict.Verdict.{Verdict}
use Rattle.ground_step.specs.declared.verdict.Verdict.TheVariants as verdict
use Rattle.ground_step.specs.Shows.{side_of, Shows, IsRight}
use Rattle.ground_step.proofs.Witnessed.{first_tests, first_rights, first_misses}
use Rattle.verdict.specs.declared.standing.Standing.{Standing}
use Rattle.verdict.specs.declared.standing.Standing.TheVariants.{Matched, Missed, Failed}
use Rattle.verdict.specs.declared.standing.Partners.{Partners}
use Rattle.verdict.specs.declared.standing.Partners.TheVariants.{Fail, Miss, Sound}
use Rattle.verdict.specs.Findings.{standing_after, standing_verdict, IsFirstTestBy, IsUngroundedBy, IsSound, HasAt, FindsPartners, AllBefore, Stands, IsStanding, IsGroundedVerdict, IsSimulationVerdict}

-- where each cut successor has a partner, none misses one; where it has one or is excused, none fails
never_misses : (q : Problem) (p : Point) → RightMatches q p → ¬ RightMisses q p
never_misses q p matches f = let m = matches f.0 f.1 f.2 f.3 f.4.0 f.4.1 in f.4.2 m.0 m.1 m.2

never_left : (q : Problem) (p : Point) → LeftMatches q p → ¬ LeftFails q p
never_left q p matches f = let m = matches f.0 f.1 f.2 f.3 f.4.0 f.4.1 in f.4.2 m.0 m.1 m.2

never_fails : (q : Problem) (p : Point) → RightIsExcused q p → ¬ RightFails q p
never_fails q p excused f =
    elim (excused f.0 f.1 f.2 f.3 f.4.0 f.4.1) [
      | inl m ↦ f.4.2 m.0 m.1 m.2
      | inr u ↦ f.4.3 u.0 u.1 u.2
    ]

sound_misses : (q : Problem) (p : Point) → IsSound q Matched p → ¬ SideMisses q p
sound_misses q p sound (inl m) = never_misses q p sound.1 m
sound_misses q p sound (inr f) = never_left q p sound.2 f

module _ (q : Problem) where
  -- the first points and one more
  before_more : (P : Point → Type 0) (k : ℕ) → AllBefore q k P → HasAt q k P → AllBefore q (k + 1) P
  before_more P k before here j p l is = go (cases_lt j k)
    where
      go : (j < k) ⊎ (k ≤ j) → P p
      go (inl h) = before j p h is
      go (inr h) = let e : j ≡ k = omega arith in here p (subst (λ i. IsPoint q i p) e is)

  before_weaker : (P Q : Point → Type 0) (k : ℕ) → ((p : Point) → P p → Q p) → AllBefore q k P → AllBefore q k Q
  before_weaker P Q k weaker before j p l is = weaker p (before j p l is)

  none_before : (P Q : Point → Type 0) (k : ℕ) → ((p : Point) → P p → ¬ Q p) → AllBefore q k P → NoneBefore q Q k
  none_before P Q k never before j p l is = never p (before j p l is)

  module _ (n : ℕ) where
    pub stands_none : IsStanding q n 0 Matched
    stands_none = record { grounded = λ j p l is. absurd (omega arith); stands = λ j p l is. absurd (omega arith) }

    after_stands : (k : ℕ) (s : Standing) (found : Partners) → Stands q n k s → FindsPartners q n k s found → Stands q n (k + 1) (standing_after s found)
    after_stands k Matched (Fail f) so_far fails = (k, fails, none_before (IsSound q Matched) (RightFails q) k (λ p x. never_fails q p x.0) so_far)
    after_stands k Matched (Miss f) so_far found = (
      before_more (RightIsExcused q) k (before_weaker (IsSound q Matched) (RightIsExcused q) k (λ p x. x.0) so_far) found.0,
      (k, found.1, none_before (IsSound q Matched) (SideMisses q) k (sound_misses q) so_far),
    )
    after_stands k Matched Sound so_far sound = before_more (IsSound q Matched) k so_far sound
    after_stands k (Missed g) (Fail f) so_far fails = (k, fails, none_before (RightIsExcused q) (RightFails q) k (never_fails q) so_far.0)
    after_stands k (Missed g) (Miss f) so_far found = (before_more (RightIsExcused q) k so_far.0 found.0, so_far.1)
    after_stands k (Missed g) Sound so_far sound = (before_more (RightIsExcused q) k so_far.0 sound, so_far.1)
    after_stands k (Failed g) (Fail f) so_far found = so_far
    after_stands k (Failed g) (Miss f) so_far found = so_far
    after_stands k (Failed g) Sound so_far found = so_far

    -- one grounded point more
    pub stands_more : (k : ℕ) (s : Standing) (found : Partners) → IsStanding q n k s → HasAt q k (IsWellGroundedAt q n) × FindsPartners q n k s found → IsStanding q n (k + 1) (standing_after s found)
    stands_more k s found so_far is = record {
      grounded = before_more (IsWellGroundedAt q n) k so_far.grounded is.0;
      stands = after_stands k s found so_far.stands is.1;
    }

    module _ (most : 1 ≤ n) where
      none_ungrounded : (k : ℕ) → AllBefore q k (IsWellGroundedAt q n) → NoneBefore q (IsUngrounded q n) k
      none_ungrounded k grounded j p l is h = no_test q n most p (grounded j p l is) h.0 h.1

      shown_test : (k : ℕ) (t : Test) (f : Failure) → AllBefore q k (IsWellGroundedAt q n) → IsFirstTestBy q n k t f → k ≡ f.point → Shows q n (ungrounded f.point t) f
      shown_test k t f grounded is e = subst (λ i. Shows q n (ungrounded i t) f) e (first_tests q n k t f (none_ungrounded k grounded) is.1 is.0)

      -- the first point that isn't grounded gives the verdict
      pub ungrounded_right : (k : ℕ) (s : Standing) → k < length q.points.points → IsStanding q n k s → (v : Verdict) → IsUngroundedBy q n k v → IsRight q n v
      ungrounded_right k s l so_far (verdict.Void j) is =
          elim ((slice_get_cases q.points.points k).1) [
            | inl there ↦ subst (λ i. IsRight q n (verdict.Void i)) (sym is.0) ((there.0, there.2, is.1 there.0 there.2), none_ungrounded k so_far.grounded)
            | inr past ↦ absurd (let m = past.0 in omega arith)
          ]
      ungrounded_right k s l so_far (verdict.Outside f) is = shown_test k (outside (side_of f.side)) f so_far.grounded is is.0.at.0
      ungrounded_right k s l so_far (verdict.Long f) is = shown_test k (long (side_of f.side)) f so_far.grounded is is.0.at.0
      ungrounded_right k s l so_far (verdict.Halted f) is = shown_test k (halted (side_of f.side)) f so_far.grounded is is.0.at.0
      ungrounded_right k s l so_far verdict.Equivalent is = absurd is
      ungrounded_right k s l so_far (verdict.Refines f) is = absurd is
      ungrounded_right k s l so_far (verdict.Unmatched f) is = absurd is

      -- so none of the verdicts of grounded relations is given there
      pub ungrounded_kind : (k : ℕ) (v : Verdict) → IsUngroundedBy q n k v → ¬ IsGroundedVerdict v
      ungrounded_kind k (verdict.Void j) is h = h
      ungrounded_kind k (verdict.Outside f) is h = h
      ungrounded_kind k (verdict.Long f) is h = h
      ungrounded_kind k (verdict.Halted f) is h = h
      ungrounded_kind k verdict.Equivalent is h = is
      ungrounded_kind k (verdict.Refines f) is h = is
      ungrounded_kind k (verdict.Unmatched f) is h = is

      -- all points are judged
      module _ (k : ℕ) (all : length q.points.points ≤ k) where
        each_point : (P : Point → Type 0) → AllBefore q k P → (j : ℕ) (p : Point) → IsPoint q j p → P p
        each_point P before j p is = before j p (let l = slice_get_within q.points.points j p is in omega arith) is

        pub all_grounded : (s : Standing) → IsStanding q n k s → IsWellGrounded q n
        all_grounded s stands = each_point (IsWellGroundedAt q n) stands.grounded

        grounded : (s : Standing) → IsStanding q n k s → IsGrounded q n
        grounded s stands = well_grounded q n most (all_grounded s stands)

        pub standing_right : (s : Standing) → IsStanding q n k s → IsRight q n (standing_verdict s)
        standing_right Matched stands = (grounded Matched stands, λ j p is. sound_misses q p (each_point (IsSound q Matched) stands.stands j p is))
        standing_right (Missed f) stands =
            let missed = stands.stands.1 in
            let side = missed.1.0 in
            let w = missed.1.1 in
            let simulates : IsCutSimulation q = λ j p is. never_fails q p (each_point (RightIsExcused q) stands.stands.0 j p is) in
            let shows = first_misses q n missed.0 side f (grounded (Missed f) stands) simulates missed.2 missed.1.2 w in
            subst (λ x. Shows q n (refines f.point x) f) (w.at.1) (subst (λ i. Shows q n (refines i side) f) w.at.0 shows)
        standing_right (Failed f) stands =
            let w = stands.stands.1 in
            subst (λ i. Shows q n (unmatched i) f) w.at.0 (first_rights q n stands.stands.0 f (grounded (Failed f) stands) stands.stands.2 w)

        pub standing_simulates : (s : Standing) → IsStanding q n k s → IsSimulationVerdict (standing_verdict s) → IsMatchedSimulation q
        standing_simulates Matched stands h = each_point (RightIsExcused q) (before_weaker (IsSound q Matched) (RightIsExcused q) k (λ p x. x.0) stands.stands)
        standing_simulates (Missed f) stands h = each_point (RightIsExcused q) stands.stands.0
        standing_simulates (Failed f) stands h = absurd h

        pub standing_matches : (s : Standing) → IsStanding q n k s → standing_verdict s ≡ verdict.Equivalent → IsMatchedBisimulation q
        standing_matches Matched stands h = (
          each_point (RightMatches q) (before_weaker (IsSound q Matched) (RightMatches q) k (λ p x. x.1) stands.stands),
          each_point (LeftMatches q) (before_weaker (IsSound q Matched) (LeftMatches q) k (λ p x. x.2) stands.stands),
        )
        standing_matches (Missed f) stands h = absurd (cc)
        standing_matches (Failed f) stands h = absurd (cc)
