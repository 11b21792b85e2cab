-- Branches that are taken at the end of a path.
use Rattle.std.specs.Prelude.{◌≡◌, ◌↔◌, ℕ, Bool, true, false, ◌&&◌, List, [], ◌∷◌, ◌++◌, Option, Some, None, All, Any}
use Rattle.std.specs.List.{list_any}
use Rattle.data_value.specs.declared.Value.{Value}
use Rattle.data_value.specs.Nodes.{Seen}
use Rattle.data_value.specs.Truth.{IsTruth, truth}
use Rattle.sort_term.specs.System.{System}
use Rattle.sort_term.specs.Tree.{Tree}
use Rattle.unify.specs.Branches.{SeenBranch, LeadsTo}
use Rattle.path_condition.specs.declared.leaf.Leaf.{Leaf}
use Rattle.path_condition.specs.Leaves.{SeenLeaf, seen_leaf, IsLeaf, Gives}
use Rattle.symbolic_step.specs.OneStep.{SeenPath, IsLive}

-- the leaf at the end of a branch of the rule with the number n: it supposes what the path and the branch do
pub record IsEndOf {N : Type 0} (p : SeenPath N) (n : ℕ) (b : SeenBranch N) (l : SeenLeaf N) : Type 0 where
  pub means : IsTruth l.condition (λ v. truth p.condition v && truth b.condition v)
  pub live : IsLive l
  pub state : l.state ≡ b.result
  pub rules : l.rules ≡ p.rules ++ n ∷ []

-- a branch is taken to a leaf, or nowhere, and then what it and the path suppose is never true
abbrev pub IsTakenTo : {S N : Type 0} → (N → Seen N) → SeenPath N → ℕ → SeenBranch N → Option (Leaf S N) → Type 0
IsTakenTo look p n b (Some l) = IsEndOf p n b (seen_leaf look l)
IsTakenTo look p n b None = (v : List Value) → truth p.condition v && truth b.condition v ≡ false

-- leaves of branches of the rule with the number n: they give exactly what the branches lead to where the path's condition is true
pub record AreTaken {N : Type 0} (sys : System) (p : SeenPath N) (n : ℕ) (bs : List (SeenBranch N)) (leaves : List (SeenLeaf N)) : Type 0 where
  pub each : All (IsLeaf sys) leaves
  pub live : All IsLive leaves
  pub exact : (v : List Value) (rules : List ℕ) (t : Tree) → Gives v rules t leaves ↔ ((truth p.condition v ≡ true) × ((rules ≡ p.rules ++ n ∷ []) × Any (LeadsTo v t) bs))

-- whether some branch's condition is true
abbrev pub some_holds : {N : Type 0} → List (SeenBranch N) → List Value → Bool
some_holds bs v = list_any (λ b. truth b.condition v) bs
