-- Leaves as what they are, and what a list of leaves gives.
use Rattle.std.specs.Prelude.{◌≡◌, ◌↔◌, ◌⊎◌, ℕ, true, List, map, All, Any}
use Rattle.data_value.specs.declared.DataSort.{DataSort}
use Rattle.data_value.specs.declared.Value.{Value}
use Rattle.data_value.specs.Nodes.{Seen, IsValuation}
use Rattle.data_value.specs.Truth.{IsCondition, truth}
use Rattle.sort_term.specs.declared.ids.RuleId.{RuleId}
use Rattle.sort_term.specs.declared.term.Term.{Term}
use Rattle.sort_term.specs.System.{System}
use Rattle.sort_term.specs.Tree.{Tree}
use Rattle.sort_term.specs.NodeTerms.{seen_term, tree_of}
use Rattle.unify.specs.Branches.{IsConfiguration}
use Rattle.path_condition.specs.declared.leaf.Leaf.{Leaf}

-- the numbers of rules
abbrev pub rule_numbers : List RuleId → List ℕ
rule_numbers rules = map (λ r. r.0) rules

-- a leaf, with each node seen as all that it is
pub record SeenLeaf (N : Type 0) : Type 0 where
  pub condition : Seen N
  pub state : Term (Seen N)
  pub rules : List ℕ

abbrev pub seen_leaf : {S N : Type 0} → (N → Seen N) → Leaf S N → SeenLeaf N
seen_leaf look l = record { condition = look l.condition; state = seen_term look l.config.term; rules = rule_numbers l.rules }

abbrev pub seen_leaves : {S N : Type 0} → (N → Seen N) → List (Leaf S N) → List (SeenLeaf N)
seen_leaves look leaves = map (seen_leaf look) leaves

-- a leaf's condition is a node of sort bool, and its state a configuration
pub record IsLeaf {N : Type 0} (sys : System) (l : SeenLeaf N) : Type 0 where
  pub condition : IsCondition l.condition
  pub state : IsConfiguration sys l.state

-- where the domain's variables have the values v, the leaf's condition is true, and it has these rules and means this state
pub record Says {N : Type 0} (v : List Value) (rules : List ℕ) (t : Tree) (l : SeenLeaf N) : Type 0 where
  pub holds : truth l.condition v ≡ true
  pub by : l.rules ≡ rules
  pub state : tree_of v l.state ≡ t

-- one of the leaves says so
abbrev pub Gives : {N : Type 0} → List Value → List ℕ → Tree → List (SeenLeaf N) → Type 0
Gives v rules t leaves = Any (Says v rules t) leaves

-- the leaves are exactly what P relates: under every valuation of the domain's variables, P relates exactly the rules and the states that they give
pub record AreLeaves {N : Type 0} (variables : List DataSort) (sys : System) (P : List Value → List ℕ → Tree → Type 0) (leaves : List (SeenLeaf N)) : Type 0 where
  pub each : All (IsLeaf sys) leaves
  pub exact : (v : List Value) → IsValuation variables v → (rules : List ℕ) (t : Tree) → Gives v rules t leaves ↔ P v rules t

-- the new leaves are the old ones and exactly what P relates
pub record AreMoreLeaves {N : Type 0} (variables : List DataSort) (sys : System) (P : List Value → List ℕ → Tree → Type 0) (old new : List (SeenLeaf N)) : Type 0 where
  pub each : All (IsLeaf sys) new
  pub exact : (v : List Value) → IsValuation variables v → (rules : List ℕ) (t : Tree) → Gives v rules t new ↔ (Gives v rules t old ⊎ P v rules t)
