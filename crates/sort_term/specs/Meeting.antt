-- Runs that meet the cut within a number of steps, said positively, over any system of steps and any set of states.
use Rattle.std.specs.Prelude.{◌≡◌, ◌≢◌, ℕ, ◌≤◌, ◌⊎◌, List, [], ◌∷◌, ◌++◌, length}
use Rattle.sort_term.specs.Runs.{IsRun, IsClear, IsMet, reached}

-- xs is the beginning of ys, or all of it
pub record Begins {X : Type 0} (xs ys : List X) : Type 0 where
  pub rest : List X
  pub is : xs ++ rest ≡ ys

-- a met run of at most n steps begins the run, or the run begins a met run of at most n steps
pub record MeetsWithin {S : Type 0} (Steps : ℕ → S → S → Type 0) (In : S → Type 0) (n : ℕ) (s : S) (run : List (ℕ × S)) : Type 0 where
  pub met : List (ℕ × S)
  pub is_met : IsMet Steps In s met
  pub short : length met ≤ n
  pub along : Begins met run ⊎ Begins run met

-- each run from s that makes a step meets the cut within n steps, or goes on until it does
abbrev pub AlwaysMeets : {S : Type 0} → (ℕ → S → S → Type 0) → (S → Type 0) → ℕ → S → Type 0
AlwaysMeets {S} Steps In n s = (run : List (ℕ × S)) → IsRun Steps s run → run ≢ [] → MeetsWithin Steps In n s run

-- met runs one after another, the first from s and each from where the one before ends; where the last ends; and all their steps
abbrev pub AreMetInTurn : {S : Type 0} → (ℕ → S → S → Type 0) → (S → Type 0) → S → List (List (ℕ × S)) → Type 0
AreMetInTurn Steps In s [] = Unit {0}
AreMetInTurn Steps In s (met ∷ more) = IsMet Steps In s met × AreMetInTurn Steps In (reached s met) more

abbrev pub reached_in_turn : {S : Type 0} → S → List (List (ℕ × S)) → S
reached_in_turn s [] = s
reached_in_turn s (met ∷ more) = reached_in_turn (reached s met) more

abbrev pub joined : {X : Type 0} → List (List X) → List X
joined [] = []
joined (xs ∷ more) = xs ++ joined more

-- a run from s is split at its states in the cut: met runs, and a rest without such states
pub record SplitsAtCut {S : Type 0} (Steps : ℕ → S → S → Type 0) (In : S → Type 0) (s : S) (run : List (ℕ × S)) : Type 0 where
  pub mets : List (List (ℕ × S))
  pub rest : List (ℕ × S)
  pub is : joined mets ++ rest ≡ run
  pub are_met : AreMetInTurn Steps In s mets
  pub clear : IsClear In rest
