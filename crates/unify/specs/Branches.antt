-- The branches of a rule.
use Rattle.std.specs.Prelude.{◌≡◌, ◌↔◌, ℕ, true, false, List, map, All, Any}
use Rattle.data_value.specs.declared.DataSort.{DataSort}
use Rattle.data_value.specs.declared.Scalar.TheVariants.{Flag}
use Rattle.data_value.specs.declared.Value.{Value}
use Rattle.data_value.specs.declared.Value.TheVariants.{One}
use Rattle.data_value.specs.Nodes.{Seen, IsValuation}
use Rattle.sort_term.specs.declared.term.Term.{Term}
use Rattle.sort_term.specs.declared.term.Sort.TheVariants.{Own}
use Rattle.sort_term.specs.System.{System}
use Rattle.sort_term.specs.Tree.{Tree}
use Rattle.sort_term.specs.Step.{Tables, StepsBy}
use Rattle.sort_term.specs.NodeTerms.{seen_term, IsTermOf, tree_of}
use Rattle.unify.specs.declared.branch.Branch.{Branch}
use Rattle.data_value.specs.Truth.{IsCondition, IsKnownAs}

-- a configuration over nodes: a term of the configuration sort, in which the sorts of the nodes count
abbrev pub IsConfiguration : {N : Type 0} → System → Term (Seen N) → Type 0
IsConfiguration sys t = IsTermOf sys.cons (Own sys.config) t

-- a branch, with each node seen as all that it is
pub record SeenBranch (N : Type 0) : Type 0 where
  pub condition : Seen N
  pub result : Term (Seen N)

abbrev pub seen_branch : {S N : Type 0} → (N → Seen N) → Branch S N → SeenBranch N
seen_branch look b = record { condition = look b.condition; result = seen_term look b.result.term }

abbrev pub seen_branches : {S N : Type 0} → (N → Seen N) → List (Branch S N) → List (SeenBranch N)
seen_branches look branches = map (seen_branch look) branches

-- a branch's condition is a node of sort bool that isn't known to be false, and its result a configuration
pub record IsBranch {N : Type 0} (sys : System) (b : SeenBranch N) : Type 0 where
  pub condition : IsCondition b.condition
  pub live : ¬ IsKnownAs false b.condition
  pub result : IsConfiguration sys b.result

-- where the domain's variables have the values v, the branch's condition is true and its result means t
pub record LeadsTo {N : Type 0} (v : List Value) (t : Tree) (b : SeenBranch N) : Type 0 where
  pub holds : b.condition.meaning v ≡ One (Flag true)
  pub result : tree_of v b.result ≡ t

-- the branches of the rule with the number n from the configuration s: under every valuation of the domain's variables, the rule's steps from what s means are exactly those to what the results of the branches mean whose condition is true
pub record AreBranches {N : Type 0} (variables : List DataSort) (sys : System) (tables : Tables) (n : ℕ) (s : Term (Seen N)) (branches : List (SeenBranch N)) : Type 0 where
  pub each : All (IsBranch sys) branches
  pub exact : (v : List Value) → IsValuation variables v → (t : Tree) → StepsBy sys tables n (tree_of v s) t ↔ Any (LeadsTo v t) branches
