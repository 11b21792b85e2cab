-- Where no run is long or halted, each run that makes a step meets the cut, or goes on.
use Rattle.std.proofs.Common.{arith, ◌≡◌, ◌≢◌, ℕ, zero, suc, ◌+◌, ◌<◌, ◌≤◌, List, [], ◌∷◌, ◌++◌, length, take, append_assoc, append-nil, refl, sym, ap, ◌∙◌, subst, ◌⊎◌, inl, inr, All}
use Rattle.std.specs.List.{Contains}
use Rattle.std.specs.Coded.{Coded, coded_ℕ, coded×}
use Rattle.std.proofs.lemmas.Bool.{cases_lt}
use Rattle.std.proofs.lemmas.List.{length_push, length-append}
use Rattle.std.proofs.lemmas.List.Elements.{All-nil, All-cons, All-head, All-tail, All-push, All-contains, Contains-append_left, Contains-push}
use Rattle.sort_term.specs.Runs.{reached, IsRun, IsStuck, IsClear, IsMet, IsLong, IsHalted}
use Rattle.sort_term.proofs.RunLemmas.{run_split, run_push, long_front, met_short}
use Rattle.sort_term.specs.Meeting.{Begins, MeetsWithin, AlwaysMeets, AreMetInTurn, reached_in_turn, joined, SplitsAtCut}
use Rattle.sort_term.proofs.Deciding.{begins, searched}

not_pushed : {X : Type 0} (xs : List X) (x : X) → xs ++ x ∷ [] ≢ []
not_pushed xs x e = let l : length (xs ++ x ∷ []) ≡ 0 = ap length e in let p = length_push xs x in absurd (omega arith)

in_front : {X : Type 0} (xs : List X) (x : X) (ys : List X) → Contains (xs ++ x ∷ [] ++ ys) x
in_front xs x ys = Contains-append_left (xs ++ x ∷ []) ys x (Contains-push xs x)

module _ {S : Type 0} (Steps : ℕ → S → S → Type 0) (In : S → Type 0) (s : S) where
  -- one step more from a run outside the cut, to a state in it
  pub met_push : (run : List (ℕ × S)) (m : ℕ) (t : S) → IsRun Steps s run → IsClear In run → Steps m (reached s run) t → In t → IsMet Steps In s (run ++ (m, t) ∷ [])
  met_push run m t runs clear step i = record {
    before = run;
    rule = m;
    last = t;
    splits = refl;
    runs = run_push Steps s run (m, t) runs step;
    between = clear;
    meets = i;
  }

  module _ (n : ℕ) (long : (run : List (ℕ × S)) → ¬ IsLong Steps In n s run) (halted : (run : List (ℕ × S)) → IsHalted Steps In s run → length run ≤ n → ⊥) where
    too_long : (run : List (ℕ × S)) → n ≤ length run → IsRun Steps s run → IsClear In run → ⊥
    too_long run l runs clear = long (take n run) (long_front Steps In s (length run) n run l (record { long = refl; runs = runs; clear = clear }))

    -- a run outside the cut isn't stuck
    not_stuck : (run : List (ℕ × S)) → IsRun Steps s run → IsClear In run → run ≢ [] → ¬ IsStuck Steps (reached s run)
    not_stuck run runs clear moves stuck = go (cases_lt (length run) n)
      where
        go : (length run < n) ⊎ (n ≤ length run) → ⊥
        go (inl h) = halted run (record { moves = moves; runs = runs; clear = clear; stuck = stuck }) (omega arith)
        go (inr h) = too_long run h runs clear

    -- a run outside the cut begins a met one
    goes_on : (k : ℕ) (run : List (ℕ × S)) → n ≤ length run + k → IsRun Steps s run → IsClear In run → run ≢ [] → ((met : List (ℕ × S)) → IsMet Steps In s met → ¬ Begins run met) → ⊥
    goes_on zero run l runs clear moves none = too_long run (omega arith) runs clear
    goes_on (suc k) run l runs clear moves none =
        not_stuck run runs clear moves (
        λ m t step.
        let longer = run ++ (m, t) ∷ [] in
        let out : ¬ In t = λ i. none longer (met_push run m t runs clear step i) (record { rest = (m, t) ∷ []; is = refl }) in
        let p = length_push run (m, t) in
        goes_on k longer (omega arith) (run_push Steps s run (m, t) runs step) (All-push (λ x. ¬ In x.1) run (m, t) clear out) (not_pushed run (m, t)) (λ met h b. none met h (record { rest = (m, t) ∷ b.rest; is = sym (append_assoc run ((m, t) ∷ []) b.rest) ∙ b.is }))
        )

  -- a run that no met run begins stays outside the cut
  stays_out : (done rest : List (ℕ × S)) → IsRun Steps s (done ++ rest) → IsClear In done → ((met : List (ℕ × S)) → IsMet Steps In s met → ¬ Begins met (done ++ rest)) → IsClear In (done ++ rest)
  stays_out done [] runs clear none = subst (IsClear In) (sym (append-nil done)) clear
  stays_out done (x ∷ rest) runs clear none =
      let e : done ++ x ∷ [] ++ rest ≡ done ++ x ∷ rest = append_assoc done (x ∷ []) rest in
      let all : IsRun Steps s (done ++ x ∷ [] ++ rest) = subst (IsRun Steps s) (sym e) runs in
      let front : IsRun Steps s (done ++ x ∷ []) = (run_split Steps s (done ++ x ∷ []) rest all).0 in
      let parts = run_split Steps s done (x ∷ []) front in
      let out : ¬ In x.1 = λ i. none (done ++ x ∷ []) (met_push done x.0 x.1 parts.0 clear parts.1.0 i) (record { rest = rest; is = e }) in
      subst (IsClear In) e (stays_out (done ++ x ∷ []) rest all (All-push (λ y. ¬ In y.1) done x clear out) (λ met h b. none met h (record { rest = b.rest; is = b.is ∙ e })))

  -- where these are all met runs, each told by an item of the list, and no run is long or halted
  module _ {X : Type 0} (c : Coded S) (n : ℕ) (told_by : X → List (ℕ × S)) (mets : List X) (sound : All (λ x. IsMet Steps In s (told_by x)) mets) (complete : (run : List (ℕ × S)) → IsMet Steps In s run → (x : X) × Contains mets x × (told_by x ≡ run)) where
    Along : List (ℕ × S) → X → Type 0
    Along run x = Begins (told_by x) run ⊎ Begins run (told_by x)

    along_told : (run : List (ℕ × S)) (x : X) → Along run x ⊎ (Along run x → ⊥)
    unfolding Along
    along_told run x = both (begins code (told_by x) run) (begins code run (told_by x))
      where
        code : Coded (ℕ × S)
        code = coded× coded_ℕ c

        neither : (Begins (told_by x) run → ⊥) → (Begins run (told_by x) → ⊥) → Begins (told_by x) run ⊎ Begins run (told_by x) → ⊥
        neither a b (inl h) = a h
        neither a b (inr h) = b h

        both : Begins (told_by x) run ⊎ (Begins (told_by x) run → ⊥) → Begins run (told_by x) ⊎ (Begins run (told_by x) → ⊥) → (Begins (told_by x) run ⊎ Begins run (told_by x)) ⊎ (Begins (told_by x) run ⊎ Begins run (told_by x) → ⊥)
        both (inl a) b = inl (inl a)
        both (inr a) (inl b) = inl (inr b)
        both (inr a) (inr b) = inr (neither a b)

    pub always_meets : ((run : List (ℕ × S)) → ¬ IsLong Steps In n s run) → ((run : List (ℕ × S)) → IsHalted Steps In s run → length run ≤ n → ⊥) → AlwaysMeets Steps In n s
    unfolding Along
    always_meets long halted run runs moves = go (searched (Along run) (along_told run) mets)
      where
        none_found : All (λ x. Along run x → ⊥) mets → ⊥
        none_found none =
            let apart : (met : List (ℕ × S)) → IsMet Steps In s met → Begins met run ⊎ Begins run met → ⊥ = λ met h. let x = complete met h in subst (λ l. Begins l run ⊎ Begins run l → ⊥) x.2 (All-contains (λ y. Along run y → ⊥) mets x.0 none x.1) in
            let clear : IsClear In run = stays_out [] run runs (All-nil (λ x. ¬ In x.1)) (λ met h b. apart met h (inl b)) in
            goes_on n long halted n run (omega arith) runs clear moves (λ met h b. apart met h (inr b))

        go : ((x : X) × Contains mets x × Along run x) ⊎ All (λ x. Along run x → ⊥) mets → MeetsWithin Steps In n s run
        go (inl f) =
            let is = All-contains (λ x. IsMet Steps In s (told_by x)) mets f.0 sound f.1 in
            record { met = told_by f.0; is_met = is; short = met_short Steps In s n (told_by f.0) long is; along = f.2 }
        go (inr none) = absurd (none_found none)

  -- a run outside the cut that meets it in time makes one more step, and has fewer steps
  pub one_more : (n : ℕ) (run : List (ℕ × S)) → MeetsWithin Steps In n s run → IsClear In run → (length run < n) × ((m : ℕ) × (t : S) × Steps m (reached s run) t)
  one_more n run w clear = go w.along
    where
      last_out : (more : List (ℕ × S)) → w.met ++ more ≡ run → ⊥
      last_out more e =
          let m = w.is_met in
          let all : All (λ x. ¬ In x.1) (m.before ++ (m.rule, m.last) ∷ [] ++ more) = subst (λ l. All (λ x. ¬ In x.1) (l ++ more)) m.splits (subst (All (λ x. ¬ In x.1)) (sym e) clear) in
          All-contains (λ x. ¬ In x.1) _ (m.rule, m.last) all (in_front m.before (m.rule, m.last) more) m.meets

      go : Begins w.met run ⊎ Begins run w.met → (length run < n) × ((m : ℕ) × (t : S) × Steps m (reached s run) t)
      go (inl b) = absurd (last_out b.rest b.is)
      go (inr b) = further b.rest b.is
        where
          further : (rest : List (ℕ × S)) → run ++ rest ≡ w.met → (length run < n) × ((m : ℕ) × (t : S) × Steps m (reached s run) t)
          further [] e = absurd (last_out [] (append-nil w.met ∙ sym e ∙ append-nil run))
          further (x ∷ rest) e =
              let l : length run + length (x ∷ rest) ≡ length w.met = sym (length-append run (x ∷ rest)) ∙ ap length e in
              let short = w.short in
              (omega arith, (x.0, x.1, (run_split Steps s run (x ∷ rest) (subst (IsRun Steps s) (sym e) w.is_met.runs)).1.0))

-- a run that begins a met one, but isn't all of it, is clear
module _ {S : Type 0} (Steps : ℕ → S → S → Type 0) (In : S → Type 0) where
  clear_within : (run before rest : List (ℕ × S)) (x y : ℕ × S) → run ++ x ∷ rest ≡ before ++ y ∷ [] → IsClear In before → IsClear In run
  clear_within [] before rest x y e clear = All-nil (λ z. ¬ In z.1)
  clear_within (r ∷ run) [] rest x y e clear =
      let l : length (run ++ x ∷ rest) ≡ 0 = (let m : r ∷ (run ++ x ∷ rest) ≡ y ∷ [] = e in let t : run ++ x ∷ rest ≡ [] = cc in ap length t) in
      let p = length-append run (x ∷ rest) in
      absurd (omega arith)
  clear_within (r ∷ run) (b ∷ before) rest x y e clear =
      let first : r ≡ b = cc in
      let more : run ++ x ∷ rest ≡ before ++ y ∷ [] = cc in
      All-cons (λ z. ¬ In z.1) r run (subst (λ z. ¬ In z.1) (sym first) (All-head (λ z. ¬ In z.1) b before clear)) (clear_within run before rest x y more (All-tail (λ z. ¬ In z.1) b before clear))

  -- a run that meets the cut in time is clear, or begins with a met run
  pub parts : (n : ℕ) (s : S) (run : List (ℕ × S)) → MeetsWithin Steps In n s run → IsClear In run ⊎ ((met : List (ℕ × S)) × IsMet Steps In s met × Begins met run)
  parts n s run w = go w.along
    where
      go : Begins w.met run ⊎ Begins run w.met → IsClear In run ⊎ ((met : List (ℕ × S)) × IsMet Steps In s met × Begins met run)
      go (inl b) = inr (w.met, w.is_met, b)
      go (inr b) = further b.rest b.is
        where
          further : (rest : List (ℕ × S)) → run ++ rest ≡ w.met → IsClear In run ⊎ ((met : List (ℕ × S)) × IsMet Steps In s met × Begins met run)
          further [] e = inr (w.met, w.is_met, record { rest = []; is = append-nil w.met ∙ sym e ∙ append-nil run })
          further (x ∷ rest) e = inl (clear_within run w.is_met.before rest x (w.is_met.rule, w.is_met.last) (e ∙ w.is_met.splits) w.is_met.between)

  -- met runs have steps
  met_moves : (s : S) (met : List (ℕ × S)) → IsMet Steps In s met → 1 ≤ length met
  met_moves s met m = let l : length met ≡ length m.before + 1 = ap length m.splits ∙ length_push m.before (m.rule, m.last) in omega arith

  -- where runs meet the cut again and again, each run is met runs and a rest without states in the cut
  pub splits : (n k : ℕ) (s : S) → ((mets : List (List (ℕ × S))) → AreMetInTurn Steps In s mets → AlwaysMeets Steps In n (reached_in_turn s mets)) → (run : List (ℕ × S)) → length run ≤ k → IsRun Steps s run → SplitsAtCut Steps In s run
  splits n k s again [] l runs = record { mets = []; rest = []; is = refl; are_met = tt; clear = All-nil (λ x. ¬ In x.1) }
  splits n zero s again (x ∷ more) l runs = absurd (omega arith)
  splits n (suc k) s again (x ∷ more) l runs =
      elim (parts n s (x ∷ more) (again [] tt (x ∷ more) runs (not_empty x more))) [
        | inl clear ↦ record { mets = []; rest = x ∷ more; is = refl; are_met = tt; clear = clear }
        | inr f ↦
            let moves = met_moves s f.0 f.1 in
            let long : length f.0 + length f.2.rest ≡ length (x ∷ more) = sym (length-append f.0 f.2.rest) ∙ ap length f.2.is in
            let there = run_split Steps s f.0 f.2.rest (subst (IsRun Steps s) (sym f.2.is) runs) in
            let later = splits n k (reached s f.0) (λ mets m. again (f.0 ∷ mets) (f.1, m)) f.2.rest (omega arith) there.1 in
            record {
              mets = f.0 ∷ later.mets;
              rest = later.rest;
              is = append_assoc f.0 (joined later.mets) later.rest ∙ ap (λ l. f.0 ++ l) later.is ∙ f.2.is;
              are_met = (f.1, later.are_met);
              clear = later.clear;
            }
      ]
    where
      not_empty : (y : ℕ × S) (ys : List (ℕ × S)) → y ∷ ys ≢ []
      not_empty y ys e = let z : length (y ∷ ys) ≡ 0 = ap length e in absurd (omega arith)
