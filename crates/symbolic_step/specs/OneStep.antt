-- One step more from a configuration over nodes.
use Rattle.std.specs.Prelude.{◌≡◌, ◌↔◌, ℕ, ◌<◌, true, false, List, All}
use Rattle.data_value.specs.declared.DataSort.{DataSort}
use Rattle.data_value.specs.declared.Value.{Value}
use Rattle.data_value.specs.Nodes.{Seen, IsValuation}
use Rattle.data_value.specs.Truth.{IsCondition, IsKnownAs, truth}
use Rattle.sort_term.specs.declared.term.Term.{Term}
use Rattle.sort_term.specs.System.{System}
use Rattle.sort_term.specs.Tree.{Tree}
use Rattle.sort_term.specs.Runs.{After, IsStuck}
use Rattle.sort_term.specs.NodeTerms.{tree_of}
use Rattle.path_condition.specs.declared.path.Path.{Path}
use Rattle.path_condition.specs.Leaves.{SeenLeaf, rule_numbers, Says, AreLeaves}

-- a path, with its node seen as all that it is
pub record SeenPath (N : Type 0) : Type 0 where
  pub condition : Seen N
  pub rules : List ℕ

abbrev pub seen_path : {N : Type 0} → (N → Seen N) → Path N → SeenPath N
seen_path look p = record { condition = look p.condition; rules = rule_numbers p.rules }

-- a configuration at the end of a path
abbrev pub start_of : {N : Type 0} → SeenPath N → Term (Seen N) → SeenLeaf N
start_of p s = record { condition = p.condition; state = s; rules = p.rules }

-- where the domain's variables have the values v: the rules and the states of one step more than what the leaf says
abbrev pub StepsFrom : {N : Type 0} → (ℕ → Tree → Tree → Type 0) → SeenLeaf N → List Value → List ℕ → Tree → Type 0
StepsFrom Steps start v = After Steps (λ rules t. Says v rules t start) (λ _. Unit {0})

-- the leaf's condition isn't known to be false
abbrev pub IsLive : {N : Type 0} → SeenLeaf N → Type 0
IsLive l = ¬ IsKnownAs false l.condition

-- the node is true exactly where the leaf's condition is and no rule gives a step from its state; where the node is false and the leaf's condition true, some rule gives one
pub record IsStuckWhere {N : Type 0} (variables : List DataSort) (Steps : ℕ → Tree → Tree → Type 0) (start : SeenLeaf N) (s : Seen N) : Type 0 where
  pub condition : IsCondition s
  pub exact : (v : List Value) → IsValuation variables v → (truth s v ≡ true) ↔ ((truth start.condition v ≡ true) × IsStuck Steps (tree_of v start.state))
  pub moves : (v : List Value) → IsValuation variables v → truth start.condition v ≡ true → truth s v ≡ false → (n : ℕ) × (t : Tree) × Steps n (tree_of v start.state) t

-- the steps by the rules with numbers below k
abbrev pub StepsBelow : ℕ → (ℕ → Tree → Tree → Type 0) → ℕ → Tree → Tree → Type 0
StepsBelow k Steps n s t = (n < k) × Steps n s t

-- the leaves are exactly the steps that the rule with the number n makes, none of them known to be apart from the path
pub record AreByRule {N : Type 0} (variables : List DataSort) (sys : System) (Step : Tree → Tree → Type 0) (n : ℕ) (start : SeenLeaf N) (leaves : List (SeenLeaf N)) : Type 0 where
  pub are : AreLeaves variables sys (StepsFrom (λ m s t. (m ≡ n) × Step s t) start) leaves
  pub live : All IsLive leaves

-- the node is true exactly where there is a step from what the configuration means
pub record AppliesWhere {N : Type 0} (variables : List DataSort) (Step : Tree → Tree → Type 0) (state : Term (Seen N)) (s : Seen N) : Type 0 where
  pub condition : IsCondition s
  pub somewhere : (v : List Value) → IsValuation variables v → truth s v ≡ true → (t : Tree) × Step (tree_of v state) t
  pub nowhere : (v : List Value) → IsValuation variables v → truth s v ≡ false → (t : Tree) → ¬ Step (tree_of v state) t
