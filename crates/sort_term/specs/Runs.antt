-- Runs of any system of steps up to any set of states.
--
-- `Steps n s t` says that the rule with the number n takes s to t, and `In s` that s is in the cut. A step of a run is the rule's number and the state that it gives.
use Rattle.std.specs.Prelude.{◌≡◌, ◌≢◌, ℕ, ◌<◌, ◌≤◌, ◌⊎◌, List, [], ◌∷◌, ◌++◌, length, map, All}

-- a run from s: each step is one of the system
abbrev pub IsRun : {S : Type 0} → (ℕ → S → S → Type 0) → S → List (ℕ × S) → Type 0
IsRun Steps s [] = Unit {0}
IsRun Steps s (x ∷ more) = Steps x.0 s x.1 × IsRun Steps x.1 more

-- the last state of a run from s
abbrev pub reached : {S : Type 0} → S → List (ℕ × S) → S
reached s [] = s
reached s (x ∷ more) = reached x.1 more

-- the rules of a run
abbrev pub rules_of : {S : Type 0} → List (ℕ × S) → List ℕ
rules_of run = map (λ x. x.0) run

-- no rule gives a step from s
abbrev pub IsStuck : {S : Type 0} → (ℕ → S → S → Type 0) → S → Type 0
IsStuck {S} Steps s = (n : ℕ) (t : S) → ¬ Steps n s t

-- the rule with the number n gives a step, and none with a smaller number does
pub record StepsFirst {S : Type 0} (Steps : ℕ → S → S → Type 0) (n : ℕ) (s t : S) : Type 0 where
  pub steps : Steps n s t
  pub first : (m : ℕ) (u : S) → m < n → ¬ Steps m s u

-- the first-rule run of n steps from s: it ends after n steps or at a state without a step
pub record IsFirstRun {S : Type 0} (Steps : ℕ → S → S → Type 0) (n : ℕ) (s : S) (run : List (ℕ × S)) : Type 0 where
  pub runs : IsRun (StepsFirst Steps) s run
  pub short : length run ≤ n
  pub ends : (length run ≡ n) ⊎ IsStuck Steps (reached s run)

-- all states of these steps lie outside the cut
abbrev pub IsClear : {S : Type 0} → (S → Type 0) → List (ℕ × S) → Type 0
IsClear In run = All (λ x. ¬ In x.1) run

-- a met run: its last step reaches the cut, and no state before, the start left out, is in it
pub record IsMet {S : Type 0} (Steps : ℕ → S → S → Type 0) (In : S → Type 0) (s : S) (run : List (ℕ × S)) : Type 0 where
  pub before : List (ℕ × S)
  pub rule : ℕ
  pub last : S
  pub splits : run ≡ before ++ (rule, last) ∷ []
  pub runs : IsRun Steps s run
  pub between : IsClear In before
  pub meets : In last

-- a long run: n steps, and all later states lie outside the cut
pub record IsLong {S : Type 0} (Steps : ℕ → S → S → Type 0) (In : S → Type 0) (n : ℕ) (s : S) (run : List (ℕ × S)) : Type 0 where
  pub long : length run ≡ n
  pub runs : IsRun Steps s run
  pub clear : IsClear In run

-- a halted run: at least one step, all later states lie outside the cut, and the last one has no step
pub record IsHalted {S : Type 0} (Steps : ℕ → S → S → Type 0) (In : S → Type 0) (s : S) (run : List (ℕ × S)) : Type 0 where
  pub moves : run ≢ []
  pub runs : IsRun Steps s run
  pub clear : IsClear In run
  pub stuck : IsStuck Steps (reached s run)

-- some run from s with P has these rules and ends in t
pub record Ends {S : Type 0} (P : List (ℕ × S) → Type 0) (s : S) (rules : List ℕ) (t : S) : Type 0 where
  pub run : List (ℕ × S)
  pub has : P run
  pub by : rules_of run ≡ rules
  pub last : reached s run ≡ t

-- cut successor: a met run from s ends in t
abbrev pub Succeeds : {S : Type 0} → (ℕ → S → S → Type 0) → (S → Type 0) → S → S → Type 0
Succeeds {S} Steps In s t = (run : List (ℕ × S)) × IsMet Steps In s run × (reached s run ≡ t)

-- a met run of at most n steps, and a halted one; beside them stand the long runs of n steps. The searches up to the cut find these three
abbrev pub IsMetWithin : {S : Type 0} → (ℕ → S → S → Type 0) → (S → Type 0) → ℕ → S → List (ℕ × S) → Type 0
IsMetWithin Steps In n s run = IsMet Steps In s run × (length run ≤ n)

abbrev pub IsHaltedWithin : {S : Type 0} → (ℕ → S → S → Type 0) → (S → Type 0) → ℕ → S → List (ℕ × S) → Type 0
IsHaltedWithin Steps In n s run = IsHalted Steps In s run × (length run ≤ n)

-- their rules and last states
abbrev pub MetTo : {S : Type 0} → (ℕ → S → S → Type 0) → (S → Type 0) → ℕ → S → List ℕ → S → Type 0
MetTo Steps In n s = Ends (IsMetWithin Steps In n s) s

abbrev pub LongTo : {S : Type 0} → (ℕ → S → S → Type 0) → (S → Type 0) → ℕ → S → List ℕ → S → Type 0
LongTo Steps In n s = Ends (IsLong Steps In n s) s

abbrev pub HaltedTo : {S : Type 0} → (ℕ → S → S → Type 0) → (S → Type 0) → ℕ → S → List ℕ → S → Type 0
HaltedTo Steps In n s = Ends (IsHaltedWithin Steps In n s) s

-- one step more than a run with P, to a state with Q
pub record After {S : Type 0} (Steps : ℕ → S → S → Type 0) (P : List ℕ → S → Type 0) (Q : S → Type 0) (rules : List ℕ) (t : S) : Type 0 where
  pub before : List ℕ
  pub start : S
  pub rule : ℕ
  pub there : P before start
  pub step : Steps rule start t
  pub splits : rules ≡ before ++ rule ∷ []
  pub has : Q t
