-- How the lists of runs grow, one run at a time.
use Rattle.std.proofs.Common.{arith, ◌≡◌, ◌≢◌, ◌↔◌, ℕ, suc, ◌+◌, ◌<◌, List, [], ◌∷◌, ◌++◌, length, take, drop, drop-cons, get_or, append_assoc, append-nil, refl, sym, ap, ◌∙◌, subst, ◌⊎◌, inl, inr}
use Rattle.std.specs.List.{Contains}
use Rattle.std.proofs.lemmas.List.{map-append, take_more, take-append-drop}
use Rattle.sort_term.specs.System.{System}
use Rattle.sort_term.specs.Tree.{Tree}
use Rattle.sort_term.specs.Step.{Tables, StepsBy}
use Rattle.ground_step.specs.declared.run.Run.{Run}
use Rattle.ground_step.specs.declared.run.RunStep.{RunStep}
use Rattle.ground_step.specs.Steps.{AreSteps, step_of, steps_of}
use Rattle.ground_step.specs.Reach.{StartedRun, NoneTwice, end_of, run_of, runs_of, with_each, AreExactly, AddsExactly, EndsIn, OneStepMore, Stops, StopsMoved}
use Rattle.ground_step.proofs.Exactly.{exactly_same, exactly_adds, adds_same, adds_one, adds_both, contains_more, new_here}
use Rattle.ground_step.proofs.Ahead.{extends_more, stops_more, with_each_extends, with_each_apart, stops_is, stops_none, extends_none}

-- items taken from the front of a list, in turn, and how many are left
pub record InTurn {X : Type 0} (all taken left : List X) (count : ℕ) : Type 0 where
  pub whole : taken ++ left ≡ all
  pub long : count ≡ length left

pub turn_more : {X : Type 0} (all taken left more : List X) (x : X) (m n : ℕ) → InTurn all taken left m → left ≡ x ∷ more → n + 1 ≡ m → InTurn all (taken ++ x ∷ []) more n
turn_more all taken left more x m n t e c = record {
  whole = append_assoc taken (x ∷ []) more ∙ ap (λ l. taken ++ l) (sym e) ∙ t.whole;
  long = let l = t.long in let f : length left ≡ suc (length more) = ap length e in omega arith;
}

pub turn_end : {X : Type 0} (all taken left : List X) (count : ℕ) → InTurn all taken left count → count ≡ 0 → taken ≡ all
turn_end {X} all taken left count t z = sym (append-nil taken) ∙ ap (λ l. taken ++ l) (sym (none left (sym t.long ∙ z))) ∙ t.whole
  where
    none : (xs : List X) → length xs ≡ 0 → xs ≡ []
    none [] h = refl
    none (x ∷ xs) h = absurd (omega arith)

-- the next of some runs, none of which stands twice, isn't among those that were taken
pub new_in_turn : {S : Type 0} (all taken left more : List (Run S)) (run : Run S) (count : ℕ) → InTurn all taken left count → left ≡ run ∷ more → NoneTwice (runs_of all) → ¬ Contains (runs_of taken) (run_of run)
new_in_turn all taken left more run count t e once =
    let is : runs_of all ≡ runs_of taken ++ run_of run ∷ runs_of more = ap (λ l. runs_of l) (sym t.whole ∙ ap (λ l. taken ++ l) e) ∙ map-append run_of taken (run ∷ more) in
    new_here (runs_of taken) (run_of run) (runs_of more) (subst NoneTwice is once)

-- the same of the run at a place
pub new_at : {S : Type 0} (runs : List (Run S)) (i : ℕ) (run : Run S) → i < length runs → run ≡ get_or runs i run → NoneTwice (runs_of runs) → ¬ Contains (runs_of (take i runs)) (run_of run)
new_at runs i run l e once =
    let from : drop i runs ≡ run ∷ drop (suc i) runs = drop-cons runs i run l ∙ ap (λ x. x ∷ drop (suc i) runs) (sym e) in
    let whole : take i runs ++ run ∷ drop (suc i) runs ≡ runs = ap (λ l. take i runs ++ l) (sym from) ∙ take-append-drop i runs in
    new_here (runs_of (take i runs)) (run_of run) (runs_of (drop (suc i) runs)) (subst NoneTwice (sym (ap (λ l. runs_of l) whole) ∙ map-append run_of (take i runs) (run ∷ drop (suc i) runs)) once)

module _ (xs : List StartedRun) (p : StartedRun) (Q : Tree → Type 0) (a b : List StartedRun) where
  -- a run more that doesn't end in Q, and one that does
  pub ends_keep : ¬ Q (end_of p) → AddsExactly (EndsIn xs Q) a b → AddsExactly (EndsIn (xs ++ p ∷ []) Q) a b
  ends_keep miss h = adds_same (EndsIn xs Q) (EndsIn (xs ++ p ∷ []) Q) a b (λ q. (to q, from q)) h
    where
      to : (q : StartedRun) → EndsIn xs Q q → EndsIn (xs ++ p ∷ []) Q q
      to q e = ((contains_more xs p q).1 (inl e.0), e.1)

      from : (q : StartedRun) → EndsIn (xs ++ p ∷ []) Q q → EndsIn xs Q q
      from q e = go ((contains_more xs p q).0 e.0)
        where
          go : Contains xs q ⊎ (q ≡ p) → EndsIn xs Q q
          go (inl c) = (c, e.1)
          go (inr is) = absurd (miss (subst (λ r. Q (end_of r)) is e.1))

  pub ends_add : ¬ Contains xs p → Q (end_of p) → AddsExactly (EndsIn xs Q) a b → AddsExactly (EndsIn (xs ++ p ∷ []) Q) a (b ++ p ∷ [])
  ends_add new hit h = adds_both (EndsIn xs Q) (λ q. q ≡ p) (EndsIn (xs ++ p ∷ []) Q) a b (b ++ p ∷ []) (λ q. (to q, from q)) (λ q e is. new (subst (Contains xs) is e.0)) h (adds_one (λ q. q ≡ p) b p (λ q. (λ e. e, λ e. e)))
    where
      to : (q : StartedRun) → EndsIn (xs ++ p ∷ []) Q q → EndsIn xs Q q ⊎ (q ≡ p)
      to q e = go ((contains_more xs p q).0 e.0)
        where
          go : Contains xs q ⊎ (q ≡ p) → EndsIn xs Q q ⊎ (q ≡ p)
          go (inl c) = inl (c, e.1)
          go (inr is) = inr is

      from : (q : StartedRun) → EndsIn xs Q q ⊎ (q ≡ p) → EndsIn (xs ++ p ∷ []) Q q
      from q (inl e) = ((contains_more xs p q).1 (inl e.0), e.1)
      from q (inr is) = ((contains_more xs p q).1 (inr is), subst (λ r. Q (end_of r)) (sym is) hit)

left_alone : (A B : Type 0) → ¬ B → (A ⊎ B) ↔ A
left_alone A B miss = (to, (λ a. inl a))
  where
    to : A ⊎ B → A
    to (inl a) = a
    to (inr b) = absurd (miss b)

both_ways : (A B C : Type 0) → (A ↔ B) → (B ↔ C) → A ↔ C
both_ways A B C f g = (λ a. g.0 (f.0 a), λ c. f.1 (g.1 c))

turned : (A B : Type 0) → (A ↔ B) → B ↔ A
turned A B f = (f.1, f.0)

module _ (sys : System) (tables : Tables) (p : StartedRun) (steps : List (ℕ × Tree)) (all : AreSteps sys tables (end_of p) steps) (xs : List StartedRun) where
  abbrev By : ℕ → Tree → Tree → Type 0
  By = StepsBy sys tables

  module _ (Q : Tree → Type 0) where
    -- the run with each of its steps is more
    moved_more : (q : StartedRun) → OneStepMore By (xs ++ p ∷ []) Q q ↔ (OneStepMore By xs Q q ⊎ EndsIn (with_each p steps) Q q)
    moved_more q = (to, from)
      where
        to : OneStepMore By (xs ++ p ∷ []) Q q → OneStepMore By xs Q q ⊎ EndsIn (with_each p steps) Q q
        to x = go ((extends_more By Q xs p q).0 x)
          where
            go : OneStepMore By xs Q q ⊎ OneStepMore By (p ∷ []) Q q → OneStepMore By xs Q q ⊎ EndsIn (with_each p steps) Q q
            go (inl y) = inl y
            go (inr y) = inr ((with_each_extends sys tables p steps all Q q).1 y)

        from : OneStepMore By xs Q q ⊎ EndsIn (with_each p steps) Q q → OneStepMore By (xs ++ p ∷ []) Q q
        from (inl y) = (extends_more By Q xs p q).1 (inl y)
        from (inr y) = (extends_more By Q xs p q).1 (inr ((with_each_extends sys tables p steps all Q q).0 y))

    apart : ¬ Contains xs p → (q : StartedRun) → OneStepMore By xs Q q → ¬ EndsIn (with_each p steps) Q q
    apart new q = with_each_apart sys tables p steps all xs new Q Q q

    pub open_moved : ¬ Contains xs p → (b c : List StartedRun) → AreExactly (OneStepMore By xs Q) b → AddsExactly (EndsIn (with_each p steps) Q) b c → AreExactly (OneStepMore By (xs ++ p ∷ []) Q) c
    open_moved new b c e h = exactly_adds (OneStepMore By xs Q) (EndsIn (with_each p steps) Q) (OneStepMore By (xs ++ p ∷ []) Q) b c moved_more (apart new) e h

    pub met_moved : ¬ Contains xs p → (a b c : List StartedRun) → AddsExactly (OneStepMore By xs Q) a b → AddsExactly (EndsIn (with_each p steps) Q) b c → AddsExactly (OneStepMore By (xs ++ p ∷ []) Q) a c
    met_moved new a b c e h = adds_both (OneStepMore By xs Q) (EndsIn (with_each p steps) Q) (OneStepMore By (xs ++ p ∷ []) Q) a b c moved_more (apart new) e h

    -- a run without a step gives none
    stuck_same : steps ≡ [] → (q : StartedRun) → OneStepMore By xs Q q ↔ OneStepMore By (xs ++ p ∷ []) Q q
    stuck_same none q =
        turned (OneStepMore By (xs ++ p ∷ []) Q q) (OneStepMore By xs Q q) (both_ways (OneStepMore By (xs ++ p ∷ []) Q q) (OneStepMore By xs Q q ⊎ OneStepMore By (p ∷ []) Q q) (OneStepMore By xs Q q) (extends_more By Q xs p q) (left_alone (OneStepMore By xs Q q) (OneStepMore By (p ∷ []) Q q) (extends_none sys tables p steps all none Q q)))

    pub open_stuck : (b : List StartedRun) → steps ≡ [] → AreExactly (OneStepMore By xs Q) b → AreExactly (OneStepMore By (xs ++ p ∷ []) Q) b
    open_stuck b none e = exactly_same (OneStepMore By xs Q) (OneStepMore By (xs ++ p ∷ []) Q) b (stuck_same none) e

    pub met_stuck : (a b : List StartedRun) → steps ≡ [] → AddsExactly (OneStepMore By xs Q) a b → AddsExactly (OneStepMore By (xs ++ p ∷ []) Q) a b
    met_stuck a b none h = adds_same (OneStepMore By xs Q) (OneStepMore By (xs ++ p ∷ []) Q) a b (stuck_same none) h

  -- a run with a step doesn't stop
  goes : steps ≢ [] → (q : StartedRun) → Stops By xs q ↔ Stops By (xs ++ p ∷ []) q
  goes some q =
      turned (Stops By (xs ++ p ∷ []) q) (Stops By xs q) (both_ways (Stops By (xs ++ p ∷ []) q) (Stops By xs q ⊎ Stops By (p ∷ []) q) (Stops By xs q) (stops_more By (λ t. Unit {0}) xs p q) (left_alone (Stops By xs q) (Stops By (p ∷ []) q) (stops_none sys tables p steps all some q)))

  pub stops_moved : (a b : List StartedRun) → steps ≢ [] → AddsExactly (Stops By xs) a b → AddsExactly (Stops By (xs ++ p ∷ [])) a b
  stops_moved a b some h = adds_same (Stops By xs) (Stops By (xs ++ p ∷ [])) a b (goes some) h

  pub halted_moved : (a b : List StartedRun) → steps ≢ [] → AddsExactly (StopsMoved By xs) a b → AddsExactly (StopsMoved By (xs ++ p ∷ [])) a b
  halted_moved a b some h = adds_same (StopsMoved By xs) (StopsMoved By (xs ++ p ∷ [])) a b (λ q. (λ x. ((goes some q).0 x.0, x.1), λ x. ((goes some q).1 x.0, x.1))) h

  -- a run without a step does
  rests : steps ≡ [] → (q : StartedRun) → Stops By (xs ++ p ∷ []) q ↔ (Stops By xs q ⊎ (q ≡ p))
  rests none q = (to, from)
    where
      to : Stops By (xs ++ p ∷ []) q → Stops By xs q ⊎ (q ≡ p)
      to x = go ((stops_more By (λ t. Unit {0}) xs p q).0 x)
        where
          go : Stops By xs q ⊎ Stops By (p ∷ []) q → Stops By xs q ⊎ (q ≡ p)
          go (inl y) = inl y
          go (inr y) = inr ((stops_is sys tables p steps all none q).0 y)

      from : Stops By xs q ⊎ (q ≡ p) → Stops By (xs ++ p ∷ []) q
      from (inl y) = (stops_more By (λ t. Unit {0}) xs p q).1 (inl y)
      from (inr e) = (stops_more By (λ t. Unit {0}) xs p q).1 (inr ((stops_is sys tables p steps all none q).1 e))

  pub stops_stuck : ¬ Contains xs p → (a b : List StartedRun) → steps ≡ [] → AddsExactly (Stops By xs) a b → AddsExactly (Stops By (xs ++ p ∷ [])) a (b ++ p ∷ [])
  stops_stuck new a b none h = adds_both (Stops By xs) (λ q. q ≡ p) (Stops By (xs ++ p ∷ [])) a b (b ++ p ∷ []) (rests none) (λ q x is. new (subst (Contains xs) is x.there)) h (adds_one (λ q. q ≡ p) b p (λ q. (λ e. e, λ e. e)))

  pub halted_stuck : ¬ Contains xs p → (a b c : List StartedRun) → steps ≡ [] → AddsExactly (StopsMoved By xs) a b → AddsExactly (λ q. (q ≡ p) × (q.1 ≢ [])) b c → AddsExactly (StopsMoved By (xs ++ p ∷ [])) a c
  halted_stuck new a b c none h k = adds_both (StopsMoved By xs) (λ q. (q ≡ p) × (q.1 ≢ [])) (StopsMoved By (xs ++ p ∷ [])) a b c (λ q. (to q, from q)) (λ q x is. new (subst (Contains xs) is.0 x.0.there)) h k
    where
      to : (q : StartedRun) → StopsMoved By (xs ++ p ∷ []) q → StopsMoved By xs q ⊎ ((q ≡ p) × (q.1 ≢ []))
      to q x = go ((rests none q).0 x.0)
        where
          go : Stops By xs q ⊎ (q ≡ p) → StopsMoved By xs q ⊎ ((q ≡ p) × (q.1 ≢ []))
          go (inl y) = inl (y, x.1)
          go (inr e) = inr (e, x.1)

      from : (q : StartedRun) → StopsMoved By xs q ⊎ ((q ≡ p) × (q.1 ≢ [])) → StopsMoved By (xs ++ p ∷ []) q
      from q (inl y) = ((rests none q).1 (inl y.0), y.1)
      from q (inr e) = ((rests none q).1 (inr e.0), e.1)

-- a run with each of some steps, and with one more
pub with_more : {S : Type 0} (p : StartedRun) (xs : List (RunStep S)) (x : RunStep S) → with_each p (steps_of (xs ++ x ∷ [])) ≡ with_each p (steps_of xs) ++ (p.0, p.1 ++ step_of x ∷ []) ∷ []
with_more p xs x = ap (with_each p) (map-append step_of xs (x ∷ [])) ∙ map-append (λ (y : ℕ × Tree). (p.0, p.1 ++ y ∷ [])) (steps_of xs) (step_of x ∷ [])

pub steps_nil : {S : Type 0} (xs : List (RunStep S)) → xs ≡ [] → steps_of xs ≡ []
steps_nil xs e = ap (λ l. steps_of l) e

pub steps_some : {S : Type 0} (xs : List (RunStep S)) → xs ≢ [] → steps_of xs ≢ []
steps_some [] h e = h refl
steps_some (x ∷ xs) h e = cc

-- one run more
pub run_more : {S : Type 0} (p : StartedRun) (olds news : List (Run S)) (l : Run S) (xs : List (RunStep S)) (i : ℕ) (x : RunStep S) → news ≡ olds ++ l ∷ [] → run_of l ≡ (p.0, p.1 ++ step_of x ∷ []) → runs_of olds ≡ with_each p (steps_of (take i xs)) → i < length xs → x ≡ get_or xs i x → runs_of news ≡ with_each p (steps_of (take (i + 1) xs))
run_more p olds news l xs i x e f g m is =
    let at : take (i + 1) xs ≡ take i xs ++ x ∷ [] = take_more xs i x m ∙ ap (λ z. take i xs ++ z ∷ []) (sym is) in
    let pushed : runs_of news ≡ runs_of olds ++ run_of l ∷ [] = ap (λ r. runs_of r) e ∙ map-append run_of olds (l ∷ []) in
    let same : runs_of olds ++ run_of l ∷ [] ≡ with_each p (steps_of (take i xs)) ++ (p.0, p.1 ++ step_of x ∷ []) ∷ [] = cc in
    pushed ∙ same ∙ sym (with_more p (take i xs) x) ∙ ap (λ r. with_each p (steps_of r)) (sym at)

-- the first run alone
pub one_run : {S : Type 0} (olds news : List (Run S)) (run : Run S) (p : StartedRun) → news ≡ olds ++ run ∷ [] → olds ≡ [] → run_of run ≡ p → runs_of news ≡ p ∷ []
one_run olds news run p e none is = ap (λ l. runs_of l) (e ∙ ap (λ l. l ++ run ∷ []) none) ∙ ap (λ q. q ∷ []) is
