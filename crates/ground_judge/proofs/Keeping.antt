-- What the lists of runs from a state tell of it.
use Rattle.std.proofs.Common.{◌≡◌, ◌≢◌, ℕ, List, [], ◌∷◌, length, refl, sym, ap, subst, All}
use Rattle.std.proofs.lemmas.List.Elements.{All-head, All-weaker}
use Rattle.sort_term.specs.declared.points.Cut.{Cut}
use Rattle.sort_term.specs.System.{System}
use Rattle.sort_term.specs.Tree.{Tree}
use Rattle.sort_term.specs.Rules.{IsSemantics}
use Rattle.sort_term.specs.Step.{Tables, StepsBy, IsState}
use Rattle.sort_term.specs.Cuts.{InCut}
use Rattle.sort_term.specs.Runs.{reached, IsMet, IsLong, IsHalted}
use Rattle.sort_term.proofs.Meets.{always_meets}
use Rattle.sort_term.proofs.RunLemmas.{met_short, halted_short}
use Rattle.sort_term.proofs.TreeCode.{tree_code}
use Rattle.ground_step.specs.Reach.{StartedRun, From, AreExactly, MetFrom, LongFrom, HaltedFrom, EndsInState, runs_of}
use Rattle.ground_step.specs.declared.run.Run.{Run}
use Rattle.ground_step.proofs.States.{run_state}
use Rattle.ground_step.proofs.Exactly.{exactly_same}
use Rattle.ground_step.proofs.Lists.{contains_nil}
use Rattle.ground_judge.specs.Found.{AreMet}

some_item : {X : Type 0} (P : X → Type 0) (xs : List X) → xs ≢ [] → All P xs → (x : X) × P x
some_item P [] d a = absurd (d refl)
some_item P (x ∷ xs) d a = (x, All-head P x xs a)

-- a list of runs is empty where the list of their values is
pub no_runs : {S : Type 0} (xs : List (Run S)) → runs_of xs ≡ [] → xs ≡ []
no_runs [] e = refl
no_runs (x ∷ xs) e = let l : length (runs_of (x ∷ xs)) ≡ 0 = ap length e in absurd (cc)

module _ {S : Type 0} (sys : System) (tables : Tables) (cuts : List (Cut S)) (s : Tree) (n : ℕ) where
  -- a list of all long runs, or of all halted ones, that isn't empty shows one
  pub some_long : (runs : List StartedRun) → runs ≢ [] → AreExactly (LongFrom sys tables cuts s n) runs → (run : List (ℕ × Tree)) × IsLong (StepsBy sys tables) (InCut sys.cons cuts) n s run
  some_long runs d e = let r = some_item (LongFrom sys tables cuts s n) runs d e.sound in (r.0.1, r.1.1)

  pub some_halted : (runs : List StartedRun) → runs ≢ [] → AreExactly (HaltedFrom sys tables cuts s n) runs → (run : List (ℕ × Tree)) × IsHalted (StepsBy sys tables) (InCut sys.cons cuts) s run
  some_halted runs d e = let r = some_item (HaltedFrom sys tables cuts s n) runs d e.sound in (r.0.1, r.1.1.0)

  -- an empty one shows that there is none
  pub no_long : AreExactly (LongFrom sys tables cuts s n) [] → (run : List (ℕ × Tree)) → ¬ IsLong (StepsBy sys tables) (InCut sys.cons cuts) n s run
  no_long l run is = contains_nil (s, run) (l.complete (s, run) (refl, is))

  pub no_halted : AreExactly (LongFrom sys tables cuts s n) [] → AreExactly (HaltedFrom sys tables cuts s n) [] → (run : List (ℕ × Tree)) → ¬ IsHalted (StepsBy sys tables) (InCut sys.cons cuts) s run
  no_halted l h run is = contains_nil (s, run) (h.complete (s, run) (refl, (is, halted_short (StepsBy sys tables) (InCut sys.cons cuts) s n run (no_long l) is)))

  pub are_met : (met : List StartedRun) → AreExactly (MetFrom sys tables cuts s n) met → AreExactly (LongFrom sys tables cuts s n) [] → AreExactly (HaltedFrom sys tables cuts s n) [] → AreMet (StepsBy sys tables) (InCut sys.cons cuts) n s met
  are_met met m l h = record {
    meets =
        always_meets Steps In s tree_code n (λ (p : StartedRun). p.1) met (All-weaker (From s (IsMet Steps In s)) (λ p. IsMet Steps In s p.1) (λ p h. h.1) met all.sound) (λ run m. ((s, run), all.complete (s, run) (refl, m), refl)) (no_long l) (λ run is short. no_halted l h run is);
    exactly = all;
  }
    where
      Steps : ℕ → Tree → Tree → Type 0
      Steps = StepsBy sys tables

      In : Tree → Type 0
      In = InCut sys.cons cuts

      all : AreExactly (From s (IsMet Steps In s)) met
      all =
          exactly_same (MetFrom sys tables cuts s n) (From s (IsMet Steps In s)) met (λ p. (λ x. (x.0, x.1.0), λ x. (x.0, (x.1, met_short Steps In s n p.1 (no_long l) x.1)))) m

-- the met runs from a state end in states
pub met_states : {S : Type 0} (sys : System) (tables : Tables) (cuts : List (Cut S)) (s : Tree) (n : ℕ) (met : List StartedRun) → IsSemantics sys → IsState sys s → AreExactly (MetFrom sys tables cuts s n) met → All (EndsInState sys) met
met_states sys tables cuts s n met lawful state exactly =
    All-weaker (MetFrom sys tables cuts s n) (EndsInState sys) (λ p h. subst (λ t. IsState sys (reached t p.1)) (sym h.0) (run_state sys tables lawful s p.1 state h.1.0.runs)) met exactly.sound
