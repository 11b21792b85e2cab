-- A run by first rules is told by its start.
use Rattle.std.proofs.Common.{arith, ◌≡◌, ◌↔◌, ◌⊎◌, inl, inr, ℕ, ◌-◌, ◌<◌, ◌≤◌, List, [], ◌∷◌, length, Bool, true, false, IsTrue, refl, sym, ap₂, ◌∙◌, subst}
use Rattle.std.proofs.lemmas.Bool.{cases_lt}
use Rattle.sort_term.specs.Rules.{IsSemantics}
use Rattle.sort_term.specs.Runs.{reached, IsStuck, StepsFirst, IsFirstRun}
use Rattle.sort_term.specs.Step.{Tables, StepsBy}
use Rattle.sort_term.specs.System.{System}
use Rattle.sort_term.specs.Tree.{Tree}
use Rattle.sort_term.proofs.Agreeing.{one_step}
use Rattle.ground_step.specs.Reach.{StartedRun, FirstRunFrom, IsStuckIn, end_of}
use Rattle.report_text.specs.Runs.{run_report}
use Rattle.keq_cli.specs.Plan.{HasOneEnd}
use Rattle.keq_cli.specs.Tasks.{IsRunOf}

module _ (s : System) (lawful : IsSemantics s) (program : Tables) where
  -- a state has one first step
  one_first_step : (t : Tree) (x y : ℕ × Tree) → StepsFirst (StepsBy s program) x.0 t x.1 → StepsFirst (StepsBy s program) y.0 t y.1 → x ≡ y
  one_first_step t x y a b = by (cases_lt x.0 y.0) (cases_lt y.0 x.0)
    where
      same : x.0 ≡ y.0 → x ≡ y
      same rule = let state : x.1 ≡ y.1 = one_step s lawful program y.0 t x.1 y.1 (subst (λ n. StepsBy s program n t x.1) rule a.steps) b.steps in λ i. (rule i, state i)

      by : (x.0 < y.0) ⊎ (y.0 ≤ x.0) → (y.0 < x.0) ⊎ (x.0 ≤ y.0) → x ≡ y
      by (inl low) other = absurd (b.first x.0 x.1 low a.steps)
      by (inr high) (inl low) = absurd (a.first y.0 y.1 low b.steps)
      by (inr high) (inr low) = same (omega arith)

  -- a run that has ended takes no step more
  no_more : (n : ℕ) (t : Tree) (x : ℕ × Tree) (xs : List (ℕ × Tree)) → IsFirstRun (StepsBy s program) n t [] → IsFirstRun (StepsBy s program) n t (x ∷ xs) → ⊥
  no_more n t x xs a b = by a.ends
    where
      by : (length {A = ℕ × Tree} [] ≡ n) ⊎ IsStuck (StepsBy s program) t → ⊥
      by (inl none) = let short : length (x ∷ xs) ≤ n = b.short in omega (arith, none, short)
      by (inr stuck) = stuck x.0 x.1 b.runs.0.steps

  -- behind its first step a run is one of a step less
  rest : (n : ℕ) (t : Tree) (x : ℕ × Tree) (xs : List (ℕ × Tree)) → IsFirstRun (StepsBy s program) n t (x ∷ xs) → IsFirstRun (StepsBy s program) (n - 1) x.1 xs
  rest n t x xs a = record { runs = a.runs.1; short = (let short : length (x ∷ xs) ≤ n = a.short in omega (arith, short)); ends = by a.ends }
    where
      by : (length (x ∷ xs) ≡ n) ⊎ IsStuck (StepsBy s program) (reached x.1 xs) → (length xs ≡ n - 1) ⊎ IsStuck (StepsBy s program) (reached x.1 xs)
      by (inl long) = inl (omega (arith, long))
      by (inr stuck) = inr stuck

  one_first_run : (n : ℕ) (t : Tree) (xs ys : List (ℕ × Tree)) → IsFirstRun (StepsBy s program) n t xs → IsFirstRun (StepsBy s program) n t ys → xs ≡ ys
  one_first_run n t [] [] a b = refl
  one_first_run n t [] (y ∷ ys) a b = absurd (no_more n t y ys a b)
  one_first_run n t (x ∷ xs) [] a b = absurd (no_more n t x xs b a)
  one_first_run n t (x ∷ xs) (y ∷ ys) a b =
      let first : x ≡ y = one_first_step t x y a.runs.0 b.runs.0 in
      let more : xs ≡ ys = one_first_run (n - 1) y.1 xs ys (subst (λ (z : ℕ × Tree). IsFirstRun (StepsBy s program) (n - 1) z.1 xs) first (rest n t x xs a)) (rest n t y ys b) in
      λ i. first i ∷ more i

  one_run_from : (start : Tree) (n : ℕ) (p q : StartedRun) → FirstRunFrom s program start n p → FirstRunFrom s program start n q → p ≡ q
  one_run_from start n p q a b =
      let first : p.0 ≡ q.0 = a.0 ∙ sym b.0 in
      let more : p.1 ≡ q.1 = one_first_run n start p.1 q.1 a.1 b.1 in
      λ i. (first i, more i)

-- a flag that tells a fact is one
same_flag : (a b : Bool) (P : Type 0) → IsTrue a ↔ P → IsTrue b ↔ P → a ≡ b
same_flag true true P f g = refl
same_flag true false P f g = absurd (let none = g.1 (f.0 refl) in cc)
same_flag false true P f g = absurd (let none = f.1 (g.0 refl) in cc)
same_flag false false P f g = refl

-- so the report of a run is told
pub one_run_end : (s : System) → IsSemantics s → (program : Tables) (start : Tree) (steps : ℕ) → HasOneEnd (IsRunOf s program start steps)
one_run_end s lawful program start steps status other x y a b =
    let same : a.made ≡ b.made = one_run_from s lawful program start steps a.made b.made a.follows b.follows in
    let tells : IsTrue a.stopped ↔ IsStuckIn s program (end_of b.made) = subst (λ (made : StartedRun). IsTrue a.stopped ↔ IsStuckIn s program (end_of made)) same a.tells in
    let flag : a.stopped ≡ b.stopped = same_flag a.stopped b.stopped (IsStuckIn s program (end_of b.made)) tells b.tells in
    (a.is_done ∙ sym b.is_done, a.is ∙ ap₂ (λ (made : StartedRun) (stopped : Bool). run_report s made stopped) same flag ∙ sym b.is)
