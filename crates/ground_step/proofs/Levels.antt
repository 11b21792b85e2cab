-- Runs of one step more.
use Rattle.std.proofs.Common.{arith, ◌≡◌, ◌≢◌, ◌↔◌, ℕ, ◌+◌, ◌<◌, ◌≤◌, List, [], ◌∷◌, ◌++◌, length, refl, sym, ap, ◌∙◌, subst, ◌⊎◌, inl, inr}
use Rattle.std.proofs.lemmas.Bool.{cases_lt}
use Rattle.std.proofs.lemmas.List.{length_push, nil_from_length}
use Rattle.std.proofs.lemmas.List.Elements.{All-nil, All-push}
use Rattle.sort_term.specs.Tree.{Tree}
use Rattle.sort_term.specs.Runs.{reached, IsRun, IsStuck, IsClear, IsMet, IsLong, IsHalted}
use Rattle.sort_term.proofs.RunLemmas.{some_pushed, run_push, run_front, met_front}
use Rattle.ground_step.specs.Reach.{StartedRun, end_of, AreExactly, From, OneStepMore, Stops, StopsMoved}
use Rattle.unify.proofs.Lists.{all_front}
use Rattle.ground_step.proofs.Exactly.{exactly_contains}

module _ (Steps : ℕ → Tree → Tree → Type 0) (In : Tree → Type 0) (s : Tree) where
  abbrev pub LongAfter : ℕ → StartedRun → Type 0
  LongAfter k = From s (IsLong Steps In k s)

  abbrev pub MetAfter : ℕ → StartedRun → Type 0
  MetAfter k = From s (λ run. IsMet Steps In s run × (length run ≤ k))

  abbrev pub HaltedBefore : ℕ → StartedRun → Type 0
  HaltedBefore k = From s (λ run. IsHalted Steps In s run × (length run < k))

  abbrev pub HaltedAfter : ℕ → StartedRun → Type 0
  HaltedAfter k = From s (λ run. IsHalted Steps In s run × (length run ≤ k))

  -- before the first step
  pub long_zero : (p : StartedRun) → LongAfter 0 p ↔ (p ≡ (s, []))
  long_zero p = (
    λ h. let n : p.1 ≡ [] = nil_from_length p.1 h.1.long in ap (λ r. (p.0, r)) n ∙ ap (λ t. (t, [])) h.0,
    λ e. (ap (λ q. q.0) e, subst (IsLong Steps In 0 s) (sym (ap (λ (q : StartedRun). q.1) e)) (record { long = refl; runs = tt; clear = All-nil (λ x. ¬ In x.1) })),
  )

  pub met_zero : (p : StartedRun) → ¬ MetAfter 0 p
  met_zero p h =
      let m = h.1.0 in
      let l : length p.1 ≡ length m.before + 1 = ap length m.splits ∙ length_push m.before (m.rule, m.last) in
      let z = h.1.1 in
      absurd (omega arith)

  pub halted_zero : (p : StartedRun) → ¬ HaltedBefore 0 p
  halted_zero p h = let z = h.1.1 in absurd (omega arith)

  module _ (k : ℕ) (runs : List StartedRun) (exact : AreExactly (LongAfter k) runs) where
    -- a run of one step more than one of these
    split_run : (Q : Tree → Type 0) (p : StartedRun) (before : List (ℕ × Tree)) (x : ℕ × Tree) → p.0 ≡ s → p.1 ≡ before ++ x ∷ [] → IsRun Steps s p.1 → IsLong Steps In k s before → Q x.1 → OneStepMore Steps runs Q p
    split_run Q p before x e splits run long has =
        let r = run_front Steps s before x (subst (IsRun Steps s) splits run) in
        record {
          before = (s, before);
          step = x;
          there = exact.complete (s, before) (refl, long);
          steps = r.1;
          has = has;
          is = ap (λ t. (t, p.1)) e ∙ ap (λ r. (s, r)) splits;
        }

    -- what is known of the run before
    base : (Q : Tree → Type 0) (p : StartedRun) (x : OneStepMore Steps runs Q p) → LongAfter k x.before
    base Q p x = (exactly_contains (LongAfter k) runs exact x.before).0 x.there

    run_of_base : (Q : Tree → Type 0) (p : StartedRun) (x : OneStepMore Steps runs Q p) → (p.0 ≡ s) × (p.1 ≡ x.before.1 ++ x.step ∷ []) × IsRun Steps s p.1 × (length p.1 ≡ k + 1)
    run_of_base Q p x =
        let b = base Q p x in
        let e : p.1 ≡ x.before.1 ++ x.step ∷ [] = ap (λ (q : StartedRun). q.1) x.is in
        let step : Steps x.step.0 (reached s x.before.1) x.step.1 = subst (λ t. Steps x.step.0 (reached t x.before.1) x.step.1) b.0 x.steps in (
          ap (λ (q : StartedRun). q.0) x.is ∙ b.0,
          e,
          subst (IsRun Steps s) (sym e) (run_push Steps s x.before.1 x.step b.1.runs step),
          ap length e ∙ length_push x.before.1 x.step ∙ ap (λ n. n + 1) b.1.long,
        )

    pub long_more : (p : StartedRun) → OneStepMore Steps runs (λ t. ¬ In t) p ↔ LongAfter (k + 1) p
    long_more p = (to, from)
      where
        to : OneStepMore Steps runs (λ t. ¬ In t) p → LongAfter (k + 1) p
        to x =
            let r = run_of_base (λ t. ¬ In t) p x in
            let b = base (λ t. ¬ In t) p x in (
              r.0,
              record { long = r.3; runs = r.2; clear = subst (IsClear In) (sym r.1) (All-push (λ y. ¬ In y.1) x.before.1 x.step b.1.clear x.has) },
            )

        from : LongAfter (k + 1) p → OneStepMore Steps runs (λ t. ¬ In t) p
        from h =
            let q = some_pushed p.1 k h.1.long in
            let r = run_front Steps s q.front q.back (subst (IsRun Steps s) q.is h.1.runs) in
            let a = all_front (λ x. ¬ In x.1) q.front q.back (subst (IsClear In) q.is h.1.clear) in
            let len : length q.front + 1 ≡ k + 1 = sym (length_push q.front q.back) ∙ ap length (sym q.is) ∙ h.1.long in
            split_run (λ t. ¬ In t) p q.front q.back h.0 q.is h.1.runs (record { long = omega (arith, len); runs = r.0; clear = a.0 }) a.1

    pub met_more : (p : StartedRun) → MetAfter (k + 1) p ↔ (MetAfter k p ⊎ OneStepMore Steps runs In p)
    met_more p = (to, from)
      where
        to : MetAfter (k + 1) p → MetAfter k p ⊎ OneStepMore Steps runs In p
        to h = go (cases_lt k (length p.1))
          where
            go : (k < length p.1) ⊎ (length p.1 ≤ k) → MetAfter k p ⊎ OneStepMore Steps runs In p
            go (inr l) = inl (h.0, (h.1.0, l))
            go (inl l) =
                let m = h.1.0 in
                let len : length p.1 ≡ length m.before + 1 = ap length m.splits ∙ length_push m.before (m.rule, m.last) in
                let most = h.1.1 in
                let is : length m.before ≡ k = omega arith in
                inr (split_run In p m.before (m.rule, m.last) h.0 m.splits m.runs (subst (λ n. IsLong Steps In n s m.before) is (met_front Steps In s p.1 m)) m.meets)

        from : MetAfter k p ⊎ OneStepMore Steps runs In p → MetAfter (k + 1) p
        from (inl h) = let l = h.1.1 in (h.0, (h.1.0, omega arith))
        from (inr x) =
            let r = run_of_base In p x in
            let b = base In p x in
            let l = r.3 in (
              r.0,
              (
                record { before = x.before.1; rule = x.step.0; last = x.step.1; splits = r.1; runs = r.2; between = b.1.clear; meets = x.has },
                omega arith,
              ),
            )

    -- those that met the cut before have fewer steps
    pub met_apart : (p : StartedRun) → MetAfter k p → ¬ OneStepMore Steps runs In p
    met_apart p h x = let l = h.1.1 in let more = (run_of_base In p x).3 in absurd (omega arith)

    -- and so have those that halted before
    pub halted_apart : (p : StartedRun) → HaltedBefore k p → ¬ Stops Steps runs p
    halted_apart p h x = let l = h.1.1 in let long = ((exactly_contains (LongAfter k) runs exact p).0 x.there).1.long in absurd (omega arith)

    stops_is : (p : StartedRun) → StopsMoved Steps runs p ↔ (LongAfter k p × (p.1 ≢ []) × IsStuck Steps (end_of p))
    stops_is p = (
      λ x. ((exactly_contains (LongAfter k) runs exact p).0 x.0.there, x.1, x.0.stuck),
      λ h. (record { there = exact.complete p h.0; stuck = h.2 }, h.1),
    )

    halts : (p : StartedRun) → LongAfter k p → (p.1 ≢ []) → IsStuck Steps (end_of p) → IsHalted Steps In s p.1
    halts p l m stuck = record { moves = m; runs = l.1.runs; clear = l.1.clear; stuck = subst (λ t. IsStuck Steps (reached t p.1)) l.0 stuck }

    pub halted_more : (p : StartedRun) → HaltedBefore (k + 1) p ↔ (HaltedBefore k p ⊎ StopsMoved Steps runs p)
    halted_more p = (to, from)
      where
        to : HaltedBefore (k + 1) p → HaltedBefore k p ⊎ StopsMoved Steps runs p
        to h = go (cases_lt (length p.1) k)
          where
            go : (length p.1 < k) ⊎ (k ≤ length p.1) → HaltedBefore k p ⊎ StopsMoved Steps runs p
            go (inl l) = inl (h.0, (h.1.0, l))
            go (inr l) =
                let most = h.1.1 in
                let a = h.1.0 in
                inr ((stops_is p).1 ((h.0, record { long = omega arith; runs = a.runs; clear = a.clear }), a.moves, subst (λ t. IsStuck Steps (reached t p.1)) (sym h.0) a.stuck))

        from : HaltedBefore k p ⊎ StopsMoved Steps runs p → HaltedBefore (k + 1) p
        from (inl h) = let l = h.1.1 in (h.0, (h.1.0, omega arith))
        from (inr x) =
            let y = (stops_is p).0 x in
            let l = y.0.1.long in
            (y.0.0, (halts p y.0 y.1 y.2, omega arith))

    -- the runs that halt at the last step
    pub halted_last : 1 ≤ k → (p : StartedRun) → HaltedAfter k p ↔ (HaltedBefore k p ⊎ Stops Steps runs p)
    halted_last one p = (to, from)
      where
        to : HaltedAfter k p → HaltedBefore k p ⊎ Stops Steps runs p
        to h = go ((halted_more p).0 (let l = h.1.1 in (h.0, (h.1.0, omega arith))))
          where
            go : HaltedBefore k p ⊎ StopsMoved Steps runs p → HaltedBefore k p ⊎ Stops Steps runs p
            go (inl b) = inl b
            go (inr x) = inr x.0

        from : HaltedBefore k p ⊎ Stops Steps runs p → HaltedAfter k p
        from (inl h) = let l = h.1.1 in (h.0, (h.1.0, omega arith))
        from (inr x) =
            let long = (exactly_contains (LongAfter k) runs exact p).0 x.there in
            let l = long.1.long in
            (long.0, (halts p long (λ e. let z : length p.1 ≡ 0 = ap length e in absurd (omega arith)) x.stuck, omega arith))
