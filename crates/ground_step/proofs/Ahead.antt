-- Runs with one more step: from one run, and from one run more.
use Rattle.std.proofs.Common.{arith, ◌≡◌, ◌≢◌, ◌↔◌, ℕ, zero, suc, ◌-◌, List, [], ◌∷◌, ◌++◌, length, get_or, slice_get, Some, All, refl, sym, ap, ◌∙◌, subst, ◌⊎◌, inl, inr}
use Rattle.std.specs.List.{Contains}
use Rattle.std.proofs.lemmas.List.Elements.{All-nil, All-cons, All-head, All-tail, All-contains, Contains-push}
use Rattle.std.proofs.lemmas.Option.{slice_get_within}
use Rattle.sort_term.specs.System.{System}
use Rattle.sort_term.specs.Tree.{Tree}
use Rattle.sort_term.specs.Step.{Tables, StepsBy, IsState}
use Rattle.sort_term.specs.Runs.{reached, IsStuck}
use Rattle.sort_term.specs.Rules.{IsSemantics}
use Rattle.sort_term.proofs.RunLemmas.{reached_push}
use Rattle.ground_step.specs.declared.run.RunStep.{RunStep}
use Rattle.ground_step.specs.Steps.{steps_of, AreSteps}
use Rattle.ground_step.specs.Reach.{StartedRun, NoneTwice, end_of, with_each, EndsIn, EndsInState, OneStepMore, Stops}
use Rattle.ground_step.proofs.Lists.{last_same, contains_nil, only_one, contains_map, map_contains}
use Rattle.ground_step.proofs.Exactly.{contains_more, none_twice_map}
use Rattle.ground_step.proofs.States.{step_state}

last_at : {S : Type 0} (s : Tree) (xs : List (RunStep S)) (x : RunStep S) (n : ℕ) → length xs ≡ suc n → Some x ≡ slice_get xs n → x.state.term ≡ reached s (steps_of xs)
last_at s [] x n l h = absurd (cc)
last_at s (y ∷ []) x zero l h = let e : x ≡ y = cc in ap (λ z. z.state.term) e
last_at s (y ∷ []) x (suc n) l h = absurd (cc)
last_at s (y ∷ z ∷ zs) x zero l h = absurd (omega arith)
last_at s (y ∷ z ∷ zs) x (suc n) l h = last_at y.state.term (z ∷ zs) x n (omega arith) h

-- the last state of steps that there are
pub last_reached : {S : Type 0} (s : Tree) (xs : List (RunStep S)) (x : RunStep S) → Some x ≡ slice_get xs (length xs - 1) → x.state.term ≡ reached s (steps_of xs)
last_reached s xs x h = last_at s xs x (length xs - 1) (let l = slice_get_within xs (length xs - 1) x (sym h) in omega arith) h

module _ (Steps : ℕ → Tree → Tree → Type 0) (Q : Tree → Type 0) (runs : List StartedRun) (p q : StartedRun) where
  -- from one run more
  pub extends_more : OneStepMore Steps (runs ++ p ∷ []) Q q ↔ (OneStepMore Steps runs Q q ⊎ OneStepMore Steps (p ∷ []) Q q)
  extends_more = (to, from)
    where
      to : OneStepMore Steps (runs ++ p ∷ []) Q q → OneStepMore Steps runs Q q ⊎ OneStepMore Steps (p ∷ []) Q q
      to x = go ((contains_more runs p x.before).0 x.there)
        where
          go : Contains runs x.before ⊎ (x.before ≡ p) → OneStepMore Steps runs Q q ⊎ OneStepMore Steps (p ∷ []) Q q
          go (inl c) = inl (record { before = x.before; step = x.step; there = c; steps = x.steps; has = x.has; is = x.is })
          go (inr e) = inr (record { before = x.before; step = x.step; there = subst (Contains (p ∷ [])) (sym e) (Contains-push [] p); steps = x.steps; has = x.has; is = x.is })

      from : OneStepMore Steps runs Q q ⊎ OneStepMore Steps (p ∷ []) Q q → OneStepMore Steps (runs ++ p ∷ []) Q q
      from (inl x) = record { before = x.before; step = x.step; there = (contains_more runs p x.before).1 (inl x.there); steps = x.steps; has = x.has; is = x.is }
      from (inr x) = record { before = x.before; step = x.step; there = (contains_more runs p x.before).1 (inr (only_one p x.before x.there)); steps = x.steps; has = x.has; is = x.is }

  pub stops_more : Stops Steps (runs ++ p ∷ []) q ↔ (Stops Steps runs q ⊎ Stops Steps (p ∷ []) q)
  stops_more = (to, from)
    where
      to : Stops Steps (runs ++ p ∷ []) q → Stops Steps runs q ⊎ Stops Steps (p ∷ []) q
      to x = go ((contains_more runs p q).0 x.there)
        where
          go : Contains runs q ⊎ (q ≡ p) → Stops Steps runs q ⊎ Stops Steps (p ∷ []) q
          go (inl c) = inl (record { there = c; stuck = x.stuck })
          go (inr e) = inr (record { there = subst (Contains (p ∷ [])) (sym e) (Contains-push [] p); stuck = x.stuck })

      from : Stops Steps runs q ⊎ Stops Steps (p ∷ []) q → Stops Steps (runs ++ p ∷ []) q
      from (inl x) = record { there = (contains_more runs p q).1 (inl x.there); stuck = x.stuck }
      from (inr x) = record { there = (contains_more runs p q).1 (inr (only_one p q x.there)); stuck = x.stuck }

module _ (sys : System) (tables : Tables) (p : StartedRun) (steps : List (ℕ × Tree)) (all : AreSteps sys tables (end_of p) steps) where
  abbrev By : ℕ → Tree → Tree → Type 0
  By = StepsBy sys tables

  -- the runs with one more step are the run with each of its steps behind it
  pub with_each_extends : (Q : Tree → Type 0) (q : StartedRun) → EndsIn (with_each p steps) Q q ↔ OneStepMore By (p ∷ []) Q q
  with_each_extends Q q = (to, from)
    where
      to : EndsIn (with_each p steps) Q q → OneStepMore By (p ∷ []) Q q
      to h =
          let m = contains_map (λ (x : ℕ × Tree). (p.0, p.1 ++ x ∷ [])) steps q h.0 in
          let x = m.0 in
          let last : end_of q ≡ x.1 = ap end_of m.2 ∙ reached_push p.0 p.1 x in
          record {
            before = p;
            step = x;
            there = Contains-push [] p;
            steps = All-contains (λ y. By y.0 (end_of p) y.1) steps x all.sound m.1;
            has = subst Q last h.1;
            is = m.2;
          }

      from : OneStepMore By (p ∷ []) Q q → EndsIn (with_each p steps) Q q
      from x =
          let e : x.before ≡ p = only_one p x.before x.there in
          let step : By x.step.0 (end_of p) x.step.1 = subst (λ b. By x.step.0 (end_of b) x.step.1) e x.steps in
          let is : q ≡ (p.0, p.1 ++ x.step ∷ []) = x.is ∙ ap (λ (b : StartedRun). (b.0, b.1 ++ x.step ∷ [])) e in (
            subst (Contains (with_each p steps)) (sym is) (map_contains (λ (y : ℕ × Tree). (p.0, p.1 ++ y ∷ [])) steps x.step (all.complete x.step.0 x.step.1 step)),
            subst Q (sym (ap end_of is ∙ reached_push p.0 p.1 x.step)) x.has,
          )

  -- a step has one place among them, so no run stands twice
  pub with_each_once : NoneTwice (with_each p steps)
  with_each_once = none_twice_map (λ (x : ℕ × Tree). (p.0, p.1 ++ x ∷ [])) steps (λ i j d l k same.
      let rises = all.rising i j d l k in
      let e : p.1 ++ get_or steps i d ∷ [] ≡ p.1 ++ get_or steps j d ∷ [] = ap (λ (q : StartedRun). q.1) same in
      let n : (get_or steps i d).0 ≡ (get_or steps j d).0 = ap (λ (x : ℕ × Tree). x.0) (last_same p.1 p.1 (get_or steps i d) (get_or steps j d) e).1 in
      absurd (omega arith))

  -- nor is one of them a run with one more step than another run
  pub with_each_apart : (xs : List StartedRun) → ¬ Contains xs p → (Q R : Tree → Type 0) (q : StartedRun) → OneStepMore By xs Q q → ¬ EndsIn (with_each p steps) R q
  with_each_apart xs new Q R q x h =
      let m = contains_map (λ (y : ℕ × Tree). (p.0, p.1 ++ y ∷ [])) steps q h.0 in
      let same : ◌≡◌ {A = StartedRun} (x.before.0, x.before.1 ++ x.step ∷ []) (p.0, p.1 ++ m.0 ∷ []) = sym x.is ∙ m.2 in
      let start : x.before.0 ≡ p.0 = ap (λ (r : StartedRun). r.0) same in
      let steps : x.before.1 ≡ p.1 = (last_same x.before.1 p.1 x.step m.0 (ap (λ (r : StartedRun). r.1) same)).0 in
      let is : x.before ≡ p = ap (λ t. (t, x.before.1)) start ∙ ap (λ l. (p.0, l)) steps in
      new (subst (Contains xs) is x.there)

  -- no steps: the run stops
  stuck_is : steps ≡ [] → IsStuck By (end_of p)
  stuck_is e n t h = contains_nil (n, t) (subst (λ xs. Contains xs (n, t)) e (all.complete n t h))

  pub stops_is : steps ≡ [] → (q : StartedRun) → Stops By (p ∷ []) q ↔ (q ≡ p)
  stops_is e q = (
    λ x. only_one p q x.there,
    λ h. record { there = subst (Contains (p ∷ [])) (sym h) (Contains-push [] p); stuck = subst (λ b. IsStuck By (end_of b)) (sym h) (stuck_is e) },
  )

  pub extends_none : steps ≡ [] → (Q : Tree → Type 0) (q : StartedRun) → ¬ OneStepMore By (p ∷ []) Q q
  extends_none e Q q x =
      let b : x.before ≡ p = only_one p x.before x.there in
      stuck_is e x.step.0 x.step.1 (subst (λ y. By x.step.0 (end_of y) x.step.1) b x.steps)

  -- a step: it doesn't
  pub stops_none : steps ≢ [] → (q : StartedRun) → ¬ Stops By (p ∷ []) q
  stops_none moves q x = go steps refl
    where
      go : (xs : List (ℕ × Tree)) → steps ≡ xs → ⊥
      go [] e = moves e
      go (y ∷ xs) e =
          let step : By y.0 (end_of p) y.1 = All-contains (λ z. By z.0 (end_of p) z.1) steps y all.sound (subst (λ zs. Contains zs y) (sym e) (0, omega arith, refl)) in
          let is : q ≡ p = only_one p q x.there in
          subst (λ b. IsStuck By (end_of b)) is x.stuck y.0 y.1 step

  -- each run with one more step ends in a state
  pub with_each_states : IsSemantics sys → All (EndsInState sys) (with_each p steps)
  with_each_states lawful = states_of steps (λ k d l. step_state sys tables lawful _ _ _ (all.sound k d l))
    where
      states_of : (xs : List (ℕ × Tree)) → All (λ x. IsState sys x.1) xs → All (EndsInState sys) (with_each p xs)
      states_of [] a = All-nil (EndsInState sys)
      states_of (x ∷ xs) a =
          All-cons (EndsInState sys) (p.0, p.1 ++ x ∷ []) (with_each p xs) (subst (IsState sys) (sym (reached_push p.0 p.1 x)) (All-head (λ y. IsState sys y.1) x xs a)) (states_of xs (All-tail (λ y. IsState sys y.1) x xs a))
