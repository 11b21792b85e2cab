-- Laws of leaves.
use Rattle.std.specs.Prelude.{◌≡◌, ◌↔◌, ℕ, List, length, All}
use Rattle.data_value.specs.declared.DataSort.{DataSort}
use Rattle.data_value.specs.declared.Value.{Value}
use Rattle.data_value.specs.Nodes.{Seen, Extends}
use Rattle.data_value.specs.NodeLaws.{DependsOnVariables}
use Rattle.data_value.specs.Views.{AgreeBelow}
use Rattle.sort_term.specs.System.{System}
use Rattle.sort_term.specs.Tree.{Tree}
use Rattle.path_condition.specs.declared.leaf.Leaf.{Leaf}
use Rattle.path_condition.specs.Leaves.{seen_leaves, IsLeaf, Gives}

-- leaves are the same leaves after the domain has grown
abbrev pub LeavesStay : Type 0 → Type 0 → Type 0
LeavesStay S N = (sys : System) (before after : N → Seen N) (leaves : List (Leaf S N)) → Extends before after → All (IsLeaf sys) (seen_leaves before leaves) → seen_leaves after leaves ≡ seen_leaves before leaves

-- where the meanings of nodes depend on the values of the domain's variables alone, leaves give the same under valuations that agree on these
abbrev pub LeavesDependOnVariables : Type 0 → Type 0 → Type 0
LeavesDependOnVariables S N =
    (sys : System) (look : N → Seen N) (variables : List DataSort) (leaves : List (Leaf S N)) → ((n : N) → DependsOnVariables look variables n) → All (IsLeaf sys) (seen_leaves look leaves) → (v w : List Value) → AgreeBelow (length variables) v w → (rules : List ℕ) (t : Tree) → Gives v rules t (seen_leaves look leaves) ↔ Gives w rules t (seen_leaves look leaves)
