-- Leaves with a partner on the other side.
use Rattle.std.specs.Prelude.{◌≡◌, ◌⊎◌, true, List, Any}
use Rattle.data_value.specs.declared.Value.{Value}
use Rattle.data_value.specs.Truth.{truth}
use Rattle.sort_term.specs.declared.problem.Problem.{Problem}
use Rattle.sort_term.specs.Tree.{Tree}
use Rattle.sort_term.specs.Relation.{Related, IsUndefined}
use Rattle.sort_term.specs.NodeTerms.{tree_of}
use Rattle.path_condition.specs.Leaves.{SeenLeaf}

-- some leaf that holds where the domain's variables have the values v means a state with the property
abbrev pub SomeHolds : {N : Type 0} → List Value → (Tree → Type 0) → List (SeenLeaf N) → Type 0
SomeHolds v P leaves = Any (λ l. (truth l.condition v ≡ true) × P (tree_of v l.state)) leaves

-- some left leaf that holds is related to the right leaf's state, and some right leaf that holds to the left leaf's
abbrev pub HasLeftPartner : {N : Type 0} → Problem → SeenLeaf N → List (SeenLeaf N) → List Value → Type 0
HasLeftPartner q leaf others v = SomeHolds v (λ a. Related q a (tree_of v leaf.state)) others

abbrev pub HasRightPartner : {N : Type 0} → Problem → SeenLeaf N → List (SeenLeaf N) → List Value → Type 0
HasRightPartner q leaf others v = SomeHolds v (λ b. Related q (tree_of v leaf.state) b) others

-- some left leaf that holds is related to the right leaf's state or undefined
abbrev pub IsExcused : {N : Type 0} → Problem → SeenLeaf N → List (SeenLeaf N) → List Value → Type 0
IsExcused q leaf others v = SomeHolds v (λ a. Related q a (tree_of v leaf.state) ⊎ IsUndefined q a) others
