-- Runs by the first rule that applies.
use Rattle.std.proofs.Common.{arith, refl, ◌≡◌, ◌↔◌, ℕ, ◌+◌, ◌<◌, ◌≤◌, [], ◌∷◌, ◌++◌, length, Bool, true, false, IsTrue, Option, Some, None, is_some, not, MatchOption, ◌⊎◌, inl, inr, sym, ◌∙◌, subst}
use Rattle.std.proofs.lemmas.Bool.{cases_lt}
use Rattle.std.proofs.lemmas.Option.{slice_get_within}
use Rattle.std.proofs.lemmas.List.{length_push}
use Rattle.sort_term.specs.System.{System}
use Rattle.sort_term.specs.Tree.{Tree}
use Rattle.sort_term.specs.Rules.{IsSemantics}
use Rattle.sort_term.specs.Step.{Tables, StepsBy, IsState}
use Rattle.sort_term.specs.Runs.{reached, IsRun, IsStuck, StepsFirst}
use Rattle.sort_term.proofs.RunLemmas.{run_push, reached_push}
use Rattle.ground_step.specs.Reach.{StartedRun, FirstRunFrom, end_of}
use Rattle.ground_step.specs.Steps.{StepIs}
use Rattle.ground_step.proofs.States.{step_state}

module _ (sys : System) (tables : Tables) (s : Tree) where
  -- the rule with the number n gives no step either
  pub none_more : (n : ℕ) → ((m : ℕ) (u : Tree) → m < n → ¬ StepsBy sys tables m s u) → StepIs sys tables n s None → (m : ℕ) (u : Tree) → m < n + 1 → ¬ StepsBy sys tables m s u
  none_more n none is m u l step = go (cases_lt m n)
    where
      go : (m < n) ⊎ (n ≤ m) → ⊥
      go (inl h) = none m u h step
      go (inr h) = let e : m ≡ n = omega arith in let f : None ≡ Some u = is.only u (subst (λ k. StepsBy sys tables k s u) e step) in absurd (cc)

  -- the rule with the number n gives the first step
  pub first_here : (n : ℕ) (t : Tree) → ((m : ℕ) (u : Tree) → m < n → ¬ StepsBy sys tables m s u) → StepIs sys tables n s (Some t) → StepsFirst (StepsBy sys tables) n s t
  first_here n t none is = record { steps = is.there t refl; first = none }

  -- no rule gives a step, once no rule of the semantics does
  pub none_steps : (n : ℕ) → length sys.rules ≤ n → ((m : ℕ) (u : Tree) → m < n → ¬ StepsBy sys tables m s u) → IsStuck (StepsBy sys tables) s
  none_steps n all none m u step = let l = slice_get_within sys.rules m step.rule step.there in none m u (omega arith) step

-- a run by first rules from s so far, with n steps
pub record IsFirstSoFar (sys : System) (tables : Tables) (s : Tree) (n : ℕ) (p : StartedRun) : Type 0 where
  pub start : p.0 ≡ s
  pub runs : IsRun (StepsFirst (StepsBy sys tables)) s p.1
  pub long : length p.1 ≡ n
  pub state : IsState sys (end_of p)

module _ (sys : System) (tables : Tables) (s : Tree) where
  pub first_begun : IsState sys s → IsFirstSoFar sys tables s 0 (s, [])
  first_begun h = record { start = refl; runs = tt; long = refl; state = h }

  pub first_pushed : IsSemantics sys → (n : ℕ) (p : StartedRun) (m : ℕ) (t : Tree) → IsFirstSoFar sys tables s n p → StepsFirst (StepsBy sys tables) m (end_of p) t → IsFirstSoFar sys tables s (n + 1) (p.0, p.1 ++ (m, t) ∷ [])
  first_pushed lawful n p m t f step =
      let long = f.long in
      let more = length_push p.1 (m, t) in
      record {
        start = f.start;
        runs = run_push (StepsFirst (StepsBy sys tables)) s p.1 (m, t) f.runs (subst (λ x. StepsFirst (StepsBy sys tables) m (reached x p.1) t) f.start step);
        long = omega arith;
        state = subst (IsState sys) (sym (reached_push p.0 p.1 (m, t))) (step_state sys tables lawful m (end_of p) t step.steps);
      }

  -- it ends after n steps, or where it is stuck
  pub first_ended : (n k : ℕ) (p : StartedRun) → k ≤ n → IsFirstSoFar sys tables s k p → (k ≡ n) ⊎ IsStuck (StepsBy sys tables) (end_of p) → FirstRunFrom sys tables s n p
  first_ended n k p l f ends = (f.start, record { runs = f.runs; short = (let long = f.long in omega arith); ends = go ends })
    where
      go : (k ≡ n) ⊎ IsStuck (StepsBy sys tables) (end_of p) → (length p.1 ≡ n) ⊎ IsStuck (StepsBy sys tables) (reached s p.1)
      go (inl e) = inl (f.long ∙ e)
      go (inr stuck) = inr (subst (λ x. IsStuck (StepsBy sys tables) (reached x p.1)) f.start stuck)

-- whether there is no first step, from what was found
pub stopped_is : {X : Type 0} (sys : System) (tables : Tables) (s : Tree) (rule : X → ℕ) (state : X → Tree) (o : Option X) (b : Bool) → is_some o ≡ not b → MatchOption o (IsStuck (StepsBy sys tables) s) (λ x. StepsFirst (StepsBy sys tables) (rule x) s (state x)) → IsTrue b ↔ IsStuck (StepsBy sys tables) s
stopped_is sys tables s rule state None true e told = (λ _. told, λ _. refl)
stopped_is sys tables s rule state None false e told = absurd (cc)
stopped_is sys tables s rule state (Some x) true e told = absurd (cc)
stopped_is sys tables s rule state (Some x) false e told = (λ h. absurd (cc), λ stuck. absurd (stuck (rule x) (state x) told.steps))
