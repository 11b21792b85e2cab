-- The steps by the first rules, one rule at a time.
use Rattle.std.proofs.Common.{arith, ◌≡◌, ℕ, ◌+◌, ◌<◌, ◌≤◌, List, [], ◌∷◌, ◌++◌, length, get_or, Some, None, All, AllPairs, refl, sym, ap, ◌∙◌, subst, ◌⊎◌, inl, inr}
use Rattle.std.specs.List.{Contains}
use Rattle.std.proofs.lemmas.Bool.{cases_lt}
use Rattle.std.proofs.lemmas.List.Elements.{All-nil, All-push, Contains-append_left, Contains-push}
use Rattle.std.proofs.lemmas.List.Quantifiers.{all_pairs_push}
use Rattle.std.proofs.lemmas.Option.{slice_get_within}
use Rattle.sort_term.specs.System.{System}
use Rattle.sort_term.specs.Tree.{Tree}
use Rattle.sort_term.specs.Step.{Tables, StepsBy}
use Rattle.ground_step.specs.Steps.{StepIs, AreSteps}

module _ (sys : System) (tables : Tables) (s : Tree) where
  -- the steps by the rules with numbers below n
  pub record AreStepsBelow (n : ℕ) (steps : List (ℕ × Tree)) : Type 0 where
    pub sound : All (λ x. StepsBy sys tables x.0 s x.1) steps
    pub complete : (m : ℕ) (t : Tree) → m < n → StepsBy sys tables m s t → Contains steps (m, t)
    pub rising : AllPairs (λ x y. x.0 < y.0) steps
    pub below : All (λ x. x.0 < n) steps

  pub none_below : AreStepsBelow 0 []
  none_below = record { sound = All-nil (λ x. StepsBy sys tables x.0 s x.1); complete = λ m t l. absurd (omega arith); rising = λ i j d l k. absurd (omega arith); below = All-nil (λ x. x.0 < 0) }

  all_lower : (n : ℕ) (xs : List (ℕ × Tree)) → All (λ x. x.0 < n) xs → All (λ x. x.0 < n + 1) xs
  all_lower n xs a k d l = let h : (get_or xs k d).0 < n = a k d l in omega arith

  -- a rule that gives no step
  pub same_below : (n : ℕ) (steps : List (ℕ × Tree)) → AreStepsBelow n steps → StepIs sys tables n s None → AreStepsBelow (n + 1) steps
  same_below n steps b i = record {
    sound = b.sound;
    complete = λ m t l h. go m t l h (cases_lt m n);
    rising = b.rising;
    below = all_lower n steps b.below;
  }
    where
      go : (m : ℕ) (t : Tree) → m < n + 1 → StepsBy sys tables m s t → (m < n) ⊎ (n ≤ m) → Contains steps (m, t)
      go m t l h (inl k) = b.complete m t k h
      go m t l h (inr k) =
          let e : m ≡ n = omega arith in
          let q : None ≡ Some t = i.only t (subst (λ j. StepsBy sys tables j s t) e h) in
          absurd (cc)

  -- a rule that gives one
  pub more_below : (n : ℕ) (steps : List (ℕ × Tree)) (t : Tree) → AreStepsBelow n steps → StepIs sys tables n s (Some t) → AreStepsBelow (n + 1) (steps ++ (n, t) ∷ [])
  more_below n steps t b i = record {
    sound = All-push (λ x. StepsBy sys tables x.0 s x.1) steps (n, t) b.sound (i.there t refl);
    complete = λ m u l h. go m u l h (cases_lt m n);
    rising = all_pairs_push (λ x y. x.0 < y.0) steps (n, t) b.rising b.below;
    below = All-push (λ x. x.0 < n + 1) steps (n, t) (all_lower n steps b.below) (omega arith);
  }
    where
      go : (m : ℕ) (u : Tree) → m < n + 1 → StepsBy sys tables m s u → (m < n) ⊎ (n ≤ m) → Contains (steps ++ (n, t) ∷ []) (m, u)
      go m u l h (inl k) = Contains-append_left steps ((n, t) ∷ []) (m, u) (b.complete m u k h)
      go m u l h (inr k) =
          let e : m ≡ n = omega arith in
          let q : Some t ≡ Some u = i.only u (subst (λ j. StepsBy sys tables j s u) e h) in
          let f : t ≡ u = cc in
          subst (λ x. Contains (steps ++ (n, t) ∷ []) x) (ap (λ y. (n, y)) f ∙ ap (λ j. (j, u)) (sym e)) (Contains-push steps (n, t))

  -- all rules
  pub all_below : (n : ℕ) (steps : List (ℕ × Tree)) → length sys.rules ≤ n → AreStepsBelow n steps → AreSteps sys tables s steps
  all_below n steps l b = record {
    sound = b.sound;
    complete = λ m t h. b.complete m t (let k = slice_get_within sys.rules m h.rule h.there in omega arith) h;
    rising = b.rising;
  }
