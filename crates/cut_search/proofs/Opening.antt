-- Open runs, and halted ones below a number of steps.
use Rattle.std.proofs.Common.{arith, ◌≡◌, ◌≢◌, ◌↔◌, ℕ, ◌+◌, ◌<◌, ◌≤◌, List, [], ◌∷◌, ◌++◌, length, refl, sym, ap, ◌∙◌, subst, ◌⊎◌, inl, inr}
use Rattle.std.proofs.lemmas.Bool.{cases_lt}
use Rattle.std.proofs.lemmas.List.{length_push}
use Rattle.sort_term.specs.Runs.{reached, rules_of, IsStuck, IsClear, IsHalted, Ends, LongTo, HaltedTo, After}
use Rattle.sort_term.proofs.RunLemmas.{pushed, reached_push, rules_push, run_push}
use Rattle.unify.proofs.Lists.{all_front}
use Rattle.cut_search.specs.Drops.{OpenTo}

module _ {S : Type 0} (Steps : ℕ → S → S → Type 0) (In : S → Type 0) (s : S) where
  -- the halted runs of less than n steps
  abbrev pub HaltedBelow : ℕ → List ℕ → S → Type 0
  HaltedBelow n = Ends (λ run. IsHalted Steps In s run × (length run < n)) s

  -- the long runs of at least one step that end without a next one
  abbrev pub LongStops : ℕ → List ℕ → S → Type 0
  LongStops k rules t = LongTo Steps In k s rules t × ((rules ≢ []) × IsStuck Steps t)

  pub halted_below_zero : (rules : List ℕ) (t : S) → ¬ HaltedBelow 0 rules t
  halted_below_zero rules t e = let l = e.has.1 in absurd (omega arith)

  moved : (run : List (ℕ × S)) (rules : List ℕ) → rules_of run ≡ rules → rules ≢ [] → run ≢ []
  moved run rules e m z = m (sym e ∙ ap rules_of z)

  named : (run : List (ℕ × S)) (rules : List ℕ) → rules_of run ≡ rules → run ≢ [] → rules ≢ []
  named [] rules e m z = m refl
  named (x ∷ run) rules e m z = let k : length (rules_of (x ∷ run)) ≡ 0 = ap length (e ∙ z) in absurd (omega arith)

  stops_halted : (k : ℕ) (rules : List ℕ) (t : S) → (stop : LongStops k rules t) → IsHalted Steps In s stop.0.run × (length stop.0.run ≡ k)
  stops_halted k rules t stop =
      let e = stop.0 in (
        record { moves = moved e.run rules e.by stop.1.0; runs = e.has.runs; clear = e.has.clear; stuck = subst (IsStuck Steps) (sym e.last) stop.1.1 },
        e.has.long,
      )

  halted_stops : (k : ℕ) (rules : List ℕ) (t : S) (run : List (ℕ × S)) → IsHalted Steps In s run → length run ≡ k → rules_of run ≡ rules → reached s run ≡ t → LongStops k rules t
  halted_stops k rules t run h long by last = (
    record { run = run; has = record { long = long; runs = h.runs; clear = h.clear }; by = by; last = last },
    (named run rules by h.moves, subst (IsStuck Steps) last h.stuck),
  )

  pub halted_below_more : (k : ℕ) (rules : List ℕ) (t : S) → HaltedBelow (k + 1) rules t ↔ (HaltedBelow k rules t ⊎ LongStops k rules t)
  halted_below_more k rules t = (to, from)
    where
      to : HaltedBelow (k + 1) rules t → HaltedBelow k rules t ⊎ LongStops k rules t
      to e = go (cases_lt (length e.run) k)
        where
          go : (length e.run < k) ⊎ (k ≤ length e.run) → HaltedBelow k rules t ⊎ LongStops k rules t
          go (inl h) = inl (record { run = e.run; has = (e.has.0, h); by = e.by; last = e.last })
          go (inr h) = let l = e.has.1 in inr (halted_stops k rules t e.run e.has.0 (omega arith) e.by e.last)

      from : HaltedBelow k rules t ⊎ LongStops k rules t → HaltedBelow (k + 1) rules t
      from (inl e) = record { run = e.run; has = (e.has.0, let l = e.has.1 in omega arith); by = e.by; last = e.last }
      from (inr stop) =
          let h = stops_halted k rules t stop in
          record { run = stop.0.run; has = (h.0, let l = h.1 in omega arith); by = stop.0.by; last = stop.0.last }

  pub halted_within : (k : ℕ) (rules : List ℕ) (t : S) → HaltedTo Steps In k s rules t ↔ HaltedBelow (k + 1) rules t
  halted_within k rules t = (
    λ e. record { run = e.run; has = (e.has.0, let l = e.has.1 in omega arith); by = e.by; last = e.last },
    λ e. record { run = e.run; has = (e.has.0, let l = e.has.1 in omega arith); by = e.by; last = e.last },
  )

  -- a long run of at least one step is open
  pub long_open : (k : ℕ) (rules : List ℕ) (t : S) → LongTo Steps In k s rules t → rules ≢ [] → OpenTo Steps In k s rules t
  long_open k rules t e m = go e.run refl
    where
      go : (run : List (ℕ × S)) → e.run ≡ run → OpenTo Steps In k s rules t
      go [] z = absurd (moved e.run rules e.by m z)
      go (x ∷ run) z =
          let p = pushed x run in
          let is : e.run ≡ p.front ++ p.back ∷ [] = z ∙ p.is in
          let clear = all_front (λ y. ¬ In y.1) p.front p.back (subst (λ r. IsClear In r) is e.has.clear) in
          record {
            run = e.run;
            has = (
              record { before = p.front; rule = p.back.0; last = p.back.1; splits = is; runs = e.has.runs; between = clear.0 },
              let l = e.has.long in omega arith,
            );
            by = e.by;
            last = e.last;
          }

  -- and so is one of one step more
  pub after_open : (Q : S → Type 0) (k : ℕ) (rules : List ℕ) (t : S) → After Steps (LongTo Steps In k s) Q rules t → OpenTo Steps In (k + 1) s rules t
  after_open Q k rules t a =
      let g = a.there in
      let x : ℕ × S = (a.rule, t) in
      record {
        run = g.run ++ x ∷ [];
        has = (
          record {
            before = g.run;
            rule = a.rule;
            last = t;
            splits = refl;
            runs = run_push Steps s g.run x g.has.runs (subst (λ u. Steps a.rule u t) (sym g.last) a.step);
            between = g.has.clear;
          },
          let len = length_push g.run x in let l = g.has.long in omega arith,
        );
        by = rules_push g.run x ∙ ap (λ qs. qs ++ a.rule ∷ []) g.by ∙ sym a.splits;
        last = reached_push s g.run x;
      }

  pub open_more : (k : ℕ) (rules : List ℕ) (t : S) → OpenTo Steps In k s rules t → OpenTo Steps In (k + 1) s rules t
  open_more k rules t e = record { run = e.run; has = (e.has.0, let l = e.has.1 in omega arith); by = e.by; last = e.last }
