-- Runs by given rules.
use Rattle.std.proofs.Common.{arith, ◌≡◌, ℕ, ◌≤◌, List, [], ◌∷◌, length, Option, Some, None, refl, ap, subst}
use Rattle.std.proofs.lemmas.Option.{slice_get_within}
use Rattle.sort_term.specs.System.{System}
use Rattle.sort_term.specs.Tree.{Tree}
use Rattle.sort_term.specs.Step.{Tables, StepsBy}
use Rattle.sort_term.specs.Runs.{IsRun, rules_of, reached}
use Rattle.ground_step.specs.Steps.{StepIs}
use Rattle.ground_step.specs.Reach.{LeadsTo}

module _ (sys : System) (tables : Tables) where
  -- the run by no rules ends where it begins
  pub leads_nowhere : (s : Tree) → LeadsTo sys tables s [] (Some s)
  leads_nowhere s = record {
    only = λ t e. go e.run e.by e.last;
    there = λ t is. record { run = []; has = tt; by = refl; last = let h : s ≡ t = cc in h };
  }
    where
      go : (run : List (ℕ × Tree)) → rules_of run ≡ [] → {t : Tree} → reached s run ≡ t → Some s ≡ Some t
      go [] by last = ap Some last
      go (x ∷ run) by last = absurd (cc)

  -- a step is the only one by its rule, so the runs go on from where it leads
  pub leads_on : (n : ℕ) (s u : Tree) (rules : List ℕ) (o : Option Tree) → StepIs sys tables n s (Some u) → LeadsTo sys tables u rules o → LeadsTo sys tables s (n ∷ rules) o
  leads_on n s u rules o step next = record {
    only = λ t e. go t e.run e.has e.by e.last;
    there = λ t is. let e = next.there t is in record { run = (n, u) ∷ e.run; has = (step.there u refl, e.has); by = ap (λ xs. n ∷ xs) e.by; last = e.last };
  }
    where
      go : (t : Tree) (run : List (ℕ × Tree)) → IsRun (StepsBy sys tables) s run → rules_of run ≡ n ∷ rules → reached s run ≡ t → o ≡ Some t
      go t [] has by last = absurd (cc)
      go t (x ∷ run) has by last =
          let first : x.0 ≡ n = cc in
          let rest : rules_of run ≡ rules = cc in
          let there : Some u ≡ Some x.1 = step.only x.1 (subst (λ m. StepsBy sys tables m s x.1) first has.0) in
          let same : x.1 ≡ u = cc in
          next.only t (record { run = run; has = subst (λ y. IsRun (StepsBy sys tables) y run) same has.1; by = rest; last = subst (λ y. reached y run ≡ t) same last })

  -- where a rule gives no step there is no run by it
  pub leads_off : (n : ℕ) (s : Tree) (rules : List ℕ) → ((t : Tree) → ¬ StepsBy sys tables n s t) → LeadsTo sys tables s (n ∷ rules) None
  leads_off n s rules none = record { only = λ t e. absurd (go t e.run e.has e.by); there = λ t is. absurd (cc) }
    where
      go : (t : Tree) (run : List (ℕ × Tree)) → IsRun (StepsBy sys tables) s run → rules_of run ≡ n ∷ rules → ⊥
      go t [] has by = absurd (cc)
      go t (x ∷ run) has by =
          let first : x.0 ≡ n = cc in
          none x.1 (subst (λ m. StepsBy sys tables m s x.1) first has.0)

  -- a rule that isn't there gives none
  pub no_rule : (n : ℕ) (s : Tree) → length sys.rules ≤ n → (t : Tree) → ¬ StepsBy sys tables n s t
  no_rule n s past t step = let l = slice_get_within sys.rules n step.rule step.there in absurd (omega arith)
