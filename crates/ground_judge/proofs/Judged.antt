-- From the runs of a point's two states to what is found of the point.
use Rattle.std.proofs.Common.{◌≡◌, ℕ, List, [], refl, sym, ap, subst, All, Bool, true, false, not, MatchBool}
use Rattle.std.specs.List.{Contains, Any}
use Rattle.std.proofs.lemmas.List.Elements.{All-contains, All-weaker}
use Rattle.sort_term.specs.declared.points.Point.{Point}
use Rattle.sort_term.specs.declared.problem.Problem.{Problem}
use Rattle.sort_term.specs.declared.term.Left.{Left}
use Rattle.sort_term.specs.declared.term.Right.{Right}
use Rattle.sort_term.specs.Tree.{Tree}
use Rattle.sort_term.specs.Runs.{reached, IsMet}
use Rattle.sort_term.specs.Relation.{Side, left, right, of_side, Related, StepsOf, InCutOf, SucceedsOf, RightFails, LeftFails}
use Rattle.sort_term.specs.Meeting.{AlwaysMeets}
use Rattle.sort_term.specs.Simulation.{IsWellGroundedAt, RightMatches, LeftMatches}
use Rattle.sort_term.specs.Verdict.{FirstTest}
use Rattle.ground_step.specs.Reach.{StartedRun, From, AreExactly, MetFrom, LongFrom, HaltedFrom, end_of, runs_of}
use Rattle.ground_step.specs.declared.reach.GroundReach.{GroundReach}
use Rattle.ground_step.specs.declared.verdict.SideName.TheVariants as side
use Rattle.ground_judge.specs.declared.kind.FailedTest.{FailedTest}
use Rattle.ground_judge.specs.declared.kind.FailedTest.TheVariants.{Void, Outside, Long, Halted}
use Rattle.ground_judge.specs.Ground.{IsOnlyPair}
use Rattle.ground_judge.specs.Kinds.{test_of}
use Rattle.ground_judge.specs.declared.finding.Finding.{Finding}
use Rattle.ground_judge.specs.declared.finding.Finding.TheVariants.{Ungrounded, Grounded}
use Rattle.ground_judge.specs.Found.{Keeps, NoEscape, FirstEscape, AreRightsMatched, IsRightUnmatched, AreLeftsMatched, IsLeftUnmatched, Finds, TellsRuns}
use Rattle.sort_term.proofs.VerdictLemmas.{misses_fails}
use Rattle.ground_judge.proofs.Keeping.{some_long, some_halted, no_long, no_halted, are_met, no_runs}
use Rattle.ground_judge.proofs.Tests.{some_pair, each_pair, only_state, first_long_left, first_long_right, first_halted_left, first_halted_right}

-- where these are all met runs from s, the cut successors of s are their last states
module _ (q : Problem) (side : Side) (s : Tree) (runs : List StartedRun) (exactly : AreExactly (From s (IsMet (StepsOf q side) (InCutOf q side) s)) runs) where
  ends : All (λ r. SucceedsOf q side s (end_of r)) runs
  ends = All-weaker (From s (IsMet (StepsOf q side) (InCutOf q side) s)) (λ r. SucceedsOf q side s (end_of r)) (λ r h. (r.1, h.1, ap (λ x. reached x r.1) (sym h.0))) runs exactly.sound

  ended : (t : Tree) → SucceedsOf q side s t → (r : StartedRun) × Contains runs r × (end_of r ≡ t)
  ended t h = ((s, h.0), exactly.complete (s, h.0) (refl, h.1), h.2)

-- what follows from a test, and from its opposite
both : {A B C D : Type 0} (b : Bool) → (A → C) → (B → D) → MatchBool b A B → MatchBool b C D
both true f g h = f h
both false f g h = g h

-- the same where the opposite is told
pub opposite : (A B : Type 0) (b : Bool) → MatchBool b A B → MatchBool (not b) B A
opposite A B true h = h
opposite A B false h = h

module _ (q : Problem) (n : ℕ) (p : Point) (a b : Tree) (only : IsOnlyPair q p a b) (defined : q.points.undefs ≡ []) where
  module _ (lefts rights : List StartedRun) (kl : Keeps (StepsOf q left) (InCutOf q left) n a lefts) (kr : Keeps (StepsOf q right) (InCutOf q right) n b rights) where
    well : IsWellGroundedAt q n p
    well = record {
      held = ([], only.relates.holds);
      sides = λ side.
          record {
            inside = λ s x. subst (InCutOf q side) (only_state q n p a b only side s x) (inside side);
            meets = λ s x. subst (AlwaysMeets (StepsOf q side) (InCutOf q side) n) (only_state q n p a b only side s x) (meets side);
          };
    }
      where
        inside : (side : Side) → InCutOf q side (of_side side a b)
        inside left = kl.0
        inside right = kr.0

        meets : (side : Side) → AlwaysMeets (StepsOf q side) (InCutOf q side) n (of_side side a b)
        meets left = kl.1.meets
        meets right = kr.1.meets

    rights_match : AreRightsMatched q lefts rights → RightMatches q p
    rights_match m =
        each_pair q n p a b only (λ c d. (b' : Tree) → SucceedsOf q right d b' → (a' : Tree) × SucceedsOf q left c a' × Related q a' b') (λ b' h. partner b' (ended q right b rights kr.1.exactly b' h))
      where
        partner : (b' : Tree) → (r : StartedRun) × Contains rights r × (end_of r ≡ b') → (a' : Tree) × SucceedsOf q left a a' × Related q a' b'
        partner b' r =
            let l = All-contains (λ x. Any (λ y. Related q (end_of y) (end_of x)) lefts) rights r.0 m r.1 in (
              end_of l.1,
              All-contains (λ x. SucceedsOf q left a (end_of x)) lefts l.1 (ends q left a lefts kl.1.exactly) (l.0, l.2, l.3),
              subst (Related q (end_of l.1)) r.2 l.4,
            )

    lefts_match : AreLeftsMatched q lefts rights → LeftMatches q p
    lefts_match m =
        each_pair q n p a b only (λ c d. (a' : Tree) → SucceedsOf q left c a' → (b' : Tree) × SucceedsOf q right d b' × Related q a' b') (λ a' h. partner a' (ended q left a lefts kl.1.exactly a' h))
      where
        partner : (a' : Tree) → (l : StartedRun) × Contains lefts l × (end_of l ≡ a') → (b' : Tree) × SucceedsOf q right b b' × Related q a' b'
        partner a' l =
            let r = All-contains (λ x. Any (λ y. Related q (end_of x) (end_of y)) rights) lefts l.0 m l.1 in (
              end_of r.1,
              All-contains (λ x. SucceedsOf q right b (end_of x)) rights r.1 (ends q right b rights kr.1.exactly) (r.0, r.2, r.3),
              subst (λ x. Related q x (end_of r.1)) l.2 r.4,
            )

    right_unmatched : IsRightUnmatched q lefts rights → RightFails q p
    right_unmatched u =
        misses_fails q p defined (some_pair q n p a b only (λ c d. (b' : Tree) × SucceedsOf q right d b' × ((a' : Tree) → SucceedsOf q left c a' → ¬ Related q a' b')) (
          end_of u.1,
          All-contains (λ x. SucceedsOf q right b (end_of x)) rights u.1 (ends q right b rights kr.1.exactly) (u.0, u.2, u.3),
          λ a' h. let l = ended q left a lefts kl.1.exactly a' h in subst (λ x. ¬ Related q x (end_of u.1)) l.2 (All-contains (λ y. ¬ Related q (end_of y) (end_of u.1)) lefts l.0 u.4 l.1),
        ))

    left_unmatched : IsLeftUnmatched q lefts rights → LeftFails q p
    left_unmatched u =
        some_pair q n p a b only (λ c d. (a' : Tree) × SucceedsOf q left c a' × ((b' : Tree) → SucceedsOf q right d b' → ¬ Related q a' b')) (
          end_of u.1,
          All-contains (λ x. SucceedsOf q left a (end_of x)) lefts u.1 (ends q left a lefts kl.1.exactly) (u.0, u.2, u.3),
          λ b' h. let r = ended q right b rights kr.1.exactly b' h in subst (λ x. ¬ Related q (end_of u.1) x) r.2 (All-contains (λ y. ¬ Related q (end_of u.1) (end_of y)) rights r.0 u.4 r.1),
        )

  -- the lists of all runs from both states
  module _ (l : GroundReach Left) (r : GroundReach Right) (il : InCutOf q left a) (ir : InCutOf q right b)
      (ll : AreExactly (LongFrom q.left q.left_program q.points.left_cuts a n) (runs_of l.long)) (lr : AreExactly (LongFrom q.right q.right_program q.points.right_cuts b n) (runs_of r.long))
      (hl : AreExactly (HaltedFrom q.left q.left_program q.points.left_cuts a n) (runs_of l.halted)) (hr : AreExactly (HaltedFrom q.right q.right_program q.points.right_cuts b n) (runs_of r.halted)) where
    long_none : l.long ≡ [] → AreExactly (LongFrom q.left q.left_program q.points.left_cuts a n) []
    long_none e = subst (λ x. AreExactly (LongFrom q.left q.left_program q.points.left_cuts a n) (runs_of x)) e ll

    long_none_right : r.long ≡ [] → AreExactly (LongFrom q.right q.right_program q.points.right_cuts b n) []
    long_none_right e = subst (λ x. AreExactly (LongFrom q.right q.right_program q.points.right_cuts b n) (runs_of x)) e lr

    halted_none : l.halted ≡ [] → AreExactly (HaltedFrom q.left q.left_program q.points.left_cuts a n) []
    halted_none e = subst (λ x. AreExactly (HaltedFrom q.left q.left_program q.points.left_cuts a n) (runs_of x)) e hl

    halted_none_right : r.halted ≡ [] → AreExactly (HaltedFrom q.right q.right_program q.points.right_cuts b n) []
    halted_none_right e = subst (λ x. AreExactly (HaltedFrom q.right q.right_program q.points.right_cuts b n) (runs_of x)) e hr

    -- the first of the lists that isn't empty tells the first test that holds
    escapes : (t : FailedTest) → FirstEscape l r t → FirstTest q n (test_of t) p
    escapes Void h = absurd h
    escapes (Outside s) h = absurd h
    escapes (Long side.Left) h = first_long_left q n p a b only il ir (some_long q.left q.left_program q.points.left_cuts a n (runs_of l.long) (λ e. h (no_runs l.long e)) ll)
    escapes (Long side.Right) h =
        first_long_right q n p a b only il ir
        (λ f. no_long q.left q.left_program q.points.left_cuts a n (long_none h.0) f.0 f.1)
        (some_long q.right q.right_program q.points.right_cuts b n (runs_of r.long) (λ e. h.1 (no_runs r.long e)) lr)
    escapes (Halted side.Left) h =
        first_halted_left q n p a b only il ir
        (λ f. no_long q.left q.left_program q.points.left_cuts a n (long_none h.0) f.0 f.1)
        (λ f. no_long q.right q.right_program q.points.right_cuts b n (long_none_right h.1) f.0 f.1)
        (some_halted q.left q.left_program q.points.left_cuts a n (runs_of l.halted) (λ e. h.2 (no_runs l.halted e)) hl)
    escapes (Halted side.Right) h =
        first_halted_right q n p a b only il ir
        (λ f. no_long q.left q.left_program q.points.left_cuts a n (long_none h.0) f.0 f.1)
        (λ f. no_long q.right q.right_program q.points.right_cuts b n (long_none_right h.1) f.0 f.1)
        (λ f. no_halted q.left q.left_program q.points.left_cuts a n (long_none h.0) (halted_none h.2) f.0 f.1)
        (some_halted q.right q.right_program q.points.right_cuts b n (runs_of r.halted) (λ e. h.3 (no_runs r.halted e)) hr)

    -- without long and halted runs, the met runs are all that there are
    module _ (none : NoEscape l r) where
      left_keeps : AreExactly (MetFrom q.left q.left_program q.points.left_cuts a n) (runs_of l.met) → Keeps (StepsOf q left) (InCutOf q left) n a (runs_of l.met)
      left_keeps m = (il, are_met q.left q.left_program q.points.left_cuts a n (runs_of l.met) m (long_none none.left_long) (halted_none none.left_halted))

      right_keeps : AreExactly (MetFrom q.right q.right_program q.points.right_cuts b n) (runs_of r.met) → Keeps (StepsOf q right) (InCutOf q right) n b (runs_of r.met)
      right_keeps m = (ir, are_met q.right q.right_program q.points.right_cuts b n (runs_of r.met) m (long_none_right none.right_long) (halted_none_right none.right_halted))

    -- what the runs tell of the pair is found of the point
    pub told : (found : Finding) → AreExactly (MetFrom q.left q.left_program q.points.left_cuts a n) (runs_of l.met) → AreExactly (MetFrom q.right q.right_program q.points.right_cuts b n) (runs_of r.met) → TellsRuns q l r found → Finds q n p found
    told (Ungrounded t) ml mr h = escapes t h
    told (Grounded right_fails left_fails) ml mr h =
        let kl = left_keeps h.0 ml in
        let kr = right_keeps h.0 mr in (
          well (runs_of l.met) (runs_of r.met) kl kr,
          both right_fails (right_unmatched (runs_of l.met) (runs_of r.met) kl kr) (rights_match (runs_of l.met) (runs_of r.met) kl kr) h.1,
          both left_fails (left_unmatched (runs_of l.met) (runs_of r.met) kl kr) (lefts_match (runs_of l.met) (runs_of r.met) kl kr) h.2,
        )
