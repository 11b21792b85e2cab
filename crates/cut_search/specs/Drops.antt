-- Leaves, some of which were dropped.
use Rattle.std.specs.Prelude.{◌≡◌, ◌⊎◌, ℕ, ◌≤◌, ◌++◌, Bool, true, false, List, [], ◌∷◌, length, filter, All, Any, IsSome}
use Rattle.data_value.specs.declared.DataSort.{DataSort}
use Rattle.data_value.specs.declared.Value.{Value}
use Rattle.data_value.specs.Nodes.{Seen, IsValuation}
use Rattle.data_value.specs.Truth.{truth}
use Rattle.sort_term.specs.declared.term.Term.{Term}
use Rattle.sort_term.specs.System.{System}
use Rattle.sort_term.specs.Tree.{Tree}
use Rattle.sort_term.specs.Runs.{IsRun, IsClear, Ends}
use Rattle.sort_term.specs.NodeTerms.{tree_of}
use Rattle.path_condition.specs.Leaves.{SeenLeaf, IsLeaf, Gives}

-- none of these leaves holds where the domain's variables have the values v
abbrev pub NoneHolds : {N : Type 0} → List Value → List (SeenLeaf N) → Type 0
NoneHolds v dropped = All (λ l. truth l.condition v ≡ false) dropped

-- what leaves may give: rules and states, where the domain's variables have some values
abbrev pub Giving : Type 1
Giving = List Value → List ℕ → Tree → Type 0

-- the leaves give nothing but what P relates
pub record AreAmong {N : Type 0} (variables : List DataSort) (sys : System) (P : Giving) (leaves : List (SeenLeaf N)) : Type 0 where
  pub each : All (IsLeaf sys) leaves
  pub sound : (v : List Value) → IsValuation variables v → (rules : List ℕ) (t : Tree) → Gives v rules t leaves → P v rules t

-- the leaves give nothing but what P relates, and all of it under each valuation where no dropped leaf holds
pub record AreLeavesBut {N : Type 0} (variables : List DataSort) (sys : System) (dropped : List (SeenLeaf N)) (P : Giving) (leaves : List (SeenLeaf N)) : Type 0 where
  pub among : AreAmong variables sys P leaves
  pub complete : (v : List Value) → IsValuation variables v → NoneHolds v dropped → (rules : List ℕ) (t : Tree) → P v rules t → Gives v rules t leaves

-- where the condition is true: the rules and the states that Ended relates with what the configuration means
abbrev pub EndsFrom : {N : Type 0} → Seen N → Term (Seen N) → (Tree → List ℕ → Tree → Type 0) → Giving
EndsFrom condition start Ended v rules t = (truth condition v ≡ true) × Ended (tree_of v start) rules t

-- an open run: at least one step, and no state strictly between the first and the last is in the cut
pub record IsOpen {S : Type 0} (Steps : ℕ → S → S → Type 0) (In : S → Type 0) (s : S) (run : List (ℕ × S)) : Type 0 where
  pub before : List (ℕ × S)
  pub rule : ℕ
  pub last : S
  pub splits : run ≡ before ++ (rule, last) ∷ []
  pub runs : IsRun Steps s run
  pub between : IsClear In before

-- the rules and the last states of the open runs of at most n steps
abbrev pub OpenTo : {S : Type 0} → (ℕ → S → S → Type 0) → (S → Type 0) → ℕ → S → List ℕ → S → Type 0
OpenTo Steps In n s = Ends (λ run. IsOpen Steps In s run × (length run ≤ n)) s

-- there is nothing to ask about a condition: it was asked about and kept, it is known, or it is one of those before
abbrev pub IsSettled : {N : Type 0} → (Seen N → Type 0) → List (Seen N) → Seen N → Type 0
IsSettled Keeps before c = Keeps c ⊎ IsSome c.known ⊎ Any (λ b. b ≡ c) before

-- so it is with the conditions of these leaves, where the search began under this one
abbrev pub AreSettled : {N : Type 0} → (Seen N → Type 0) → Seen N → List (SeenLeaf N) → Type 0
AreSettled Keeps start leaves = All (λ l. IsSettled Keeps (start ∷ []) l.condition) leaves

-- the answers are those that were there and some more, and as many of these are yes as leaves were dropped
pub record AreAnswered (old new : List Bool) (dropped : ℕ) : Type 0 where
  pub more : List Bool
  pub new_is : new ≡ old ++ more
  pub count : length (filter (λ b. b) more) ≡ dropped
