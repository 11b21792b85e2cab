-- Runs over any system of steps and any set of states: their parts, and runs of one step more.
use Rattle.std.proofs.Common.{arith, ◌≡◌, ◌≢◌, ◌↔◌, ℕ, ◌+◌, ◌<◌, ◌≤◌, List, [], ◌∷◌, ◌++◌, length, take, drop, refl, sym, ap, ◌∙◌, subst, ◌⊎◌, inl, inr, All}
use Rattle.std.proofs.lemmas.Bool.{cases_lt}
use Rattle.std.proofs.lemmas.List.{length_push, length-take-le, map-append, nil_from_length, take-append-drop}
use Rattle.std.proofs.lemmas.List.Elements.{All-nil, All-take, All-push, All-head, All-tail, All-cons}
use Rattle.sort_term.specs.Runs.{reached, rules_of, IsRun, IsStuck, IsClear, IsMet, IsLong, IsHalted, Succeeds, MetTo, LongTo, HaltedTo, After}

-- a list of at least one item, as its front and its last item
pub record Pushed {X : Type 0} (xs : List X) : Type 0 where
  pub front : List X
  pub back : X
  pub is : xs ≡ front ++ back ∷ []

pub pushed : {X : Type 0} (x : X) (xs : List X) → Pushed (x ∷ xs)
pushed x [] = record { front = []; back = x; is = refl }
pushed x (y ∷ ys) = let p = pushed y ys in record { front = x ∷ p.front; back = p.back; is = ap (λ zs. x ∷ zs) p.is }

pub some_pushed : {X : Type 0} (xs : List X) (k : ℕ) → length xs ≡ k + 1 → Pushed xs
some_pushed [] k e = absurd (omega arith)
some_pushed (x ∷ xs) k e = pushed x xs

pub reached-append : {S : Type 0} (s : S) (xs ys : List (ℕ × S)) → reached s (xs ++ ys) ≡ reached (reached s xs) ys
reached-append s [] ys = refl
reached-append s (x ∷ xs) ys = reached-append x.1 xs ys

pub reached_push : {S : Type 0} (s : S) (xs : List (ℕ × S)) (x : ℕ × S) → reached s (xs ++ x ∷ []) ≡ x.1
reached_push s xs x = reached-append s xs (x ∷ [])

pub rules_push : {S : Type 0} (xs : List (ℕ × S)) (x : ℕ × S) → rules_of (xs ++ x ∷ []) ≡ rules_of xs ++ x.0 ∷ []
rules_push xs x = map-append (λ y. y.0) xs (x ∷ [])

module _ {S : Type 0} (Steps : ℕ → S → S → Type 0) where
  -- a run and a run from where it ends are one run, and a run parts so at each place
  pub run_join : (s : S) (xs ys : List (ℕ × S)) → IsRun Steps s xs → IsRun Steps (reached s xs) ys → IsRun Steps s (xs ++ ys)
  run_join s [] ys r h = h
  run_join s (x ∷ xs) ys r h = (r.0, run_join x.1 xs ys r.1 h)

  pub run_split : (s : S) (xs ys : List (ℕ × S)) → IsRun Steps s (xs ++ ys) → IsRun Steps s xs × IsRun Steps (reached s xs) ys
  run_split s [] ys r = (tt, r)
  run_split s (x ∷ xs) ys r = let h = run_split x.1 xs ys r.1 in ((r.0, h.0), h.1)

  pub run_push : (s : S) (xs : List (ℕ × S)) (x : ℕ × S) → IsRun Steps s xs → Steps x.0 (reached s xs) x.1 → IsRun Steps s (xs ++ x ∷ [])
  run_push s xs x r h = run_join s xs (x ∷ []) r (h, tt)

  pub run_front : (s : S) (xs : List (ℕ × S)) (x : ℕ × S) → IsRun Steps s (xs ++ x ∷ []) → IsRun Steps s xs × Steps x.0 (reached s xs) x.1
  run_front s xs x r = let h = run_split s xs (x ∷ []) r in (h.0, h.1.0)

  pub run_cut : (s : S) (n : ℕ) (run : List (ℕ × S)) → IsRun Steps s run → IsRun Steps s (take n run) × IsRun Steps (reached s (take n run)) (drop n run)
  run_cut s n run r = run_split s (take n run) (drop n run) (subst (IsRun Steps s) (sym (take-append-drop n run)) r)

all_front : {X : Type 0} (P : X → Type 0) (xs : List X) (x : X) → All P (xs ++ x ∷ []) → All P xs × P x
all_front P [] x a = (All-nil P, All-head P x [] a)
all_front P (y ∷ ys) x a =
    let r = all_front P ys x (All-tail P y (ys ++ x ∷ []) a) in
    (All-cons P y ys (All-head P y (ys ++ x ∷ []) a) r.0, r.1)

module _ {S : Type 0} (Steps : ℕ → S → S → Type 0) (In : S → Type 0) (s : S) where
  -- the first steps of a long run are a long run
  pub long_front : (n k : ℕ) (run : List (ℕ × S)) → k ≤ n → IsLong Steps In n s run → IsLong Steps In k s (take k run)
  long_front n k run l h =
      let e = h.long in
      record {
        long = length-take-le k run (omega arith);
        runs = (run_cut Steps s k run h.runs).0;
        clear = All-take (λ x. ¬ In x.1) k run h.clear;
      }

  -- what stands before the last step of a met run is a long run
  pub met_front : (run : List (ℕ × S)) (m : IsMet Steps In s run) → IsLong Steps In (length m.before) s m.before
  met_front run m = record {
    long = refl;
    runs = (run_front Steps s m.before (m.rule, m.last) (subst (IsRun Steps s) m.splits m.runs)).0;
    clear = m.between;
  }

  -- where no run of n steps keeps its later states outside the cut, a met run has at most n steps
  pub met_short : (n : ℕ) (run : List (ℕ × S)) → ((r : List (ℕ × S)) → ¬ IsLong Steps In n s r) → IsMet Steps In s run → length run ≤ n
  met_short n run none m = go (cases_lt (length m.before) n)
    where
      long_is : length run ≡ length m.before + 1
      long_is = ap length m.splits ∙ length_push m.before (m.rule, m.last)

      go : (length m.before < n) ⊎ (n ≤ length m.before) → length run ≤ n
      go (inl h) = omega (arith, long_is)
      go (inr h) = absurd (none (take n m.before) (long_front (length m.before) n m.before h (met_front run m)))

  -- there the cut successors are those that met runs of at most n steps reach
  pub succeeds_within : (n : ℕ) (t : S) → ((r : List (ℕ × S)) → ¬ IsLong Steps In n s r) → Succeeds Steps In s t ↔ ((rules : List ℕ) × MetTo Steps In n s rules t)
  succeeds_within n t none = (
    λ h. (rules_of h.0, record { run = h.0; has = (h.1, met_short n h.0 none h.1); by = refl; last = h.2 }),
    λ h. let e = h.1 in (e.run, e.has.0, e.last),
  )

  pub long_zero : (rules : List ℕ) (t : S) → LongTo Steps In 0 s rules t ↔ ((rules ≡ []) × (s ≡ t))
  long_zero rules t = (
    λ e. let n : e.run ≡ [] = nil_from_length e.run e.has.long in (sym e.by ∙ ap rules_of n, ap (reached s) (sym n) ∙ e.last),
    λ h. record { run = []; has = record { long = refl; runs = tt; clear = All-nil (λ x. ¬ In x.1) }; by = sym h.0; last = h.1 },
  )

  pub long_more : (k : ℕ) (rules : List ℕ) (t : S) → LongTo Steps In (k + 1) s rules t ↔ After Steps (LongTo Steps In k s) (λ u. ¬ In u) rules t
  long_more k rules t = (to, from)
    where
      to : LongTo Steps In (k + 1) s rules t → After Steps (LongTo Steps In k s) (λ u. ¬ In u) rules t
      to e =
          let p = some_pushed e.run k e.has.long in
          let r = run_front Steps s p.front p.back (subst (IsRun Steps s) p.is e.has.runs) in
          let a = all_front (λ x. ¬ In x.1) p.front p.back (subst (IsClear In) p.is e.has.clear) in
          let last : p.back.1 ≡ t = sym (reached_push s p.front p.back) ∙ ap (reached s) (sym p.is) ∙ e.last in
          let len : length p.front + 1 ≡ k + 1 = sym (length_push p.front p.back) ∙ ap length (sym p.is) ∙ e.has.long in
          record {
            before = rules_of p.front;
            start = reached s p.front;
            rule = p.back.0;
            there = record { run = p.front; has = record { long = omega (arith, len); runs = r.0; clear = a.0 }; by = refl; last = refl };
            step = subst (λ u. Steps p.back.0 (reached s p.front) u) last r.1;
            splits = sym e.by ∙ ap rules_of p.is ∙ rules_push p.front p.back;
            has = subst (λ u. ¬ In u) last a.1;
          }

      from : After Steps (LongTo Steps In k s) (λ u. ¬ In u) rules t → LongTo Steps In (k + 1) s rules t
      from a =
          let g = a.there in
          record {
            run = g.run ++ (a.rule, t) ∷ [];
            has = record {
              long = length_push g.run (a.rule, t) ∙ ap (λ n. n + 1) g.has.long;
              runs = run_push Steps s g.run (a.rule, t) g.has.runs (subst (λ u. Steps a.rule u t) (sym g.last) a.step);
              clear = All-push (λ x. ¬ In x.1) g.run (a.rule, t) g.has.clear a.has;
            };
            by = rules_push g.run (a.rule, t) ∙ ap (λ qs. qs ++ a.rule ∷ []) g.by ∙ sym a.splits;
            last = reached_push s g.run (a.rule, t);
          }

  pub met_zero : (rules : List ℕ) (t : S) → ¬ MetTo Steps In 0 s rules t
  met_zero rules t e = let m = e.has.0 in let h : length e.run ≡ length m.before + 1 = ap length m.splits ∙ length_push m.before (m.rule, m.last) in let l = e.has.1 in absurd (omega arith)

  pub met_more : (k : ℕ) (rules : List ℕ) (t : S) → MetTo Steps In (k + 1) s rules t ↔ (MetTo Steps In k s rules t ⊎ After Steps (LongTo Steps In k s) In rules t)
  met_more k rules t = (to, from)
    where
      to : MetTo Steps In (k + 1) s rules t → MetTo Steps In k s rules t ⊎ After Steps (LongTo Steps In k s) In rules t
      to e = go (cases_lt k (length e.run))
        where
          go : (k < length e.run) ⊎ (length e.run ≤ k) → MetTo Steps In k s rules t ⊎ After Steps (LongTo Steps In k s) In rules t
          go (inr h) = inl (record { run = e.run; has = (e.has.0, h); by = e.by; last = e.last })
          go (inl h) =
              let m = e.has.0 in
              let x : ℕ × S = (m.rule, m.last) in
              let r = run_front Steps s m.before x (subst (IsRun Steps s) m.splits m.runs) in
              let len : length e.run ≡ length m.before + 1 = ap length m.splits ∙ length_push m.before x in
              let most = e.has.1 in
              let last : m.last ≡ t = sym (reached_push s m.before x) ∙ ap (reached s) (sym m.splits) ∙ e.last in
              inr (record {
                before = rules_of m.before;
                start = reached s m.before;
                rule = m.rule;
                there = record { run = m.before; has = record { long = omega arith; runs = r.0; clear = m.between }; by = refl; last = refl };
                step = subst (λ u. Steps m.rule (reached s m.before) u) last r.1;
                splits = sym e.by ∙ ap rules_of m.splits ∙ rules_push m.before x;
                has = subst In last m.meets;
              })

      from : MetTo Steps In k s rules t ⊎ After Steps (LongTo Steps In k s) In rules t → MetTo Steps In (k + 1) s rules t
      from (inl e) = record { run = e.run; has = (e.has.0, let l = e.has.1 in omega arith); by = e.by; last = e.last }
      from (inr a) =
          let g = a.there in
          let len : length (g.run ++ (a.rule, t) ∷ []) ≡ length g.run + 1 = length_push g.run (a.rule, t) in
          let long = g.has.long in
          record {
            run = g.run ++ (a.rule, t) ∷ [];
            has = (
              record {
                before = g.run;
                rule = a.rule;
                last = t;
                splits = refl;
                runs = run_push Steps s g.run (a.rule, t) g.has.runs (subst (λ u. Steps a.rule u t) (sym g.last) a.step);
                between = g.has.clear;
                meets = a.has;
              },
              omega arith,
            );
            by = rules_push g.run (a.rule, t) ∙ ap (λ qs. qs ++ a.rule ∷ []) g.by ∙ sym a.splits;
            last = reached_push s g.run (a.rule, t);
          }

  pub halted_zero : (rules : List ℕ) (t : S) → ¬ HaltedTo Steps In 0 s rules t
  halted_zero rules t e = e.has.0.moves (nil_from_length e.run (let l = e.has.1 in omega arith))

  pub halted_more : (k : ℕ) (rules : List ℕ) (t : S) → HaltedTo Steps In (k + 1) s rules t ↔ (HaltedTo Steps In k s rules t ⊎ (LongTo Steps In (k + 1) s rules t × IsStuck Steps t))
  halted_more k rules t = (to, from)
    where
      to : HaltedTo Steps In (k + 1) s rules t → HaltedTo Steps In k s rules t ⊎ (LongTo Steps In (k + 1) s rules t × IsStuck Steps t)
      to e = go (cases_lt k (length e.run))
        where
          go : (k < length e.run) ⊎ (length e.run ≤ k) → HaltedTo Steps In k s rules t ⊎ (LongTo Steps In (k + 1) s rules t × IsStuck Steps t)
          go (inr h) = inl (record { run = e.run; has = (e.has.0, h); by = e.by; last = e.last })
          go (inl h) =
              let l = e.has.1 in
              inr (
                record { run = e.run; has = record { long = omega arith; runs = e.has.0.runs; clear = e.has.0.clear }; by = e.by; last = e.last },
                subst (IsStuck Steps) e.last e.has.0.stuck,
              )

      moved : (run : List (ℕ × S)) → length run ≡ k + 1 → run ≢ []
      moved run l e = let z : length run ≡ 0 = ap length e in absurd (omega arith)

      from : HaltedTo Steps In k s rules t ⊎ (LongTo Steps In (k + 1) s rules t × IsStuck Steps t) → HaltedTo Steps In (k + 1) s rules t
      from (inl e) = record { run = e.run; has = (e.has.0, let l = e.has.1 in omega arith); by = e.by; last = e.last }
      from (inr h) =
          let e = h.0 in
          let l = e.has.long in
          record {
            run = e.run;
            has = (record { moves = moved e.run l; runs = e.has.runs; clear = e.has.clear; stuck = subst (IsStuck Steps) (sym e.last) h.1 }, omega arith);
            by = e.by;
            last = e.last;
          }

  -- where no run is long, a halted run has at most n steps
  pub halted_short : (n : ℕ) (run : List (ℕ × S)) → ((r : List (ℕ × S)) → ¬ IsLong Steps In n s r) → IsHalted Steps In s run → length run ≤ n
  halted_short n run none is = go (cases_lt n (length run))
    where
      go : (n < length run) ⊎ (length run ≤ n) → length run ≤ n
      go (inl h) = absurd (none (take n run) (long_front (length run) n run (omega arith) (record { long = refl; runs = is.runs; clear = is.clear })))
      go (inr h) = h
