-- Conditions that say of a configuration whether it is in the cut.
use Rattle.std.specs.Prelude.{◌≡◌, ◌↔◌, true, false, List}
use Rattle.data_value.specs.declared.DataSort.{DataSort}
use Rattle.data_value.specs.declared.Value.{Value}
use Rattle.data_value.specs.Nodes.{Seen, IsValuation}
use Rattle.data_value.specs.Truth.{IsCondition, truth}
use Rattle.sort_term.specs.declared.term.Term.{Term}
use Rattle.sort_term.specs.declared.semantics.Con.{Con}
use Rattle.sort_term.specs.declared.points.Cut.{Cut}
use Rattle.sort_term.specs.Cuts.{IsCovered, InCut}
use Rattle.sort_term.specs.NodeTerms.{tree_of}

-- A condition that is true of exactly the valuations under which the item covers what the configuration means.
pub record IsCovering {S N : Type 0} (variables : List DataSort) (cons : List Con) (item : Cut S) (state : Term (Seen N)) (s : Seen N) : Type 0 where
  pub condition : IsCondition s
  pub exact : (v : List Value) → IsValuation variables v → (truth s v ≡ true) ↔ IsCovered cons item (tree_of v state)

-- A condition that is false of exactly the valuations under which what the configuration means is in the cut.
pub record IsOutside {S N : Type 0} (variables : List DataSort) (cons : List Con) (cuts : List (Cut S)) (state : Term (Seen N)) (s : Seen N) : Type 0 where
  pub condition : IsCondition s
  pub inside : (v : List Value) → IsValuation variables v → (truth s v ≡ false) ↔ InCut cons cuts (tree_of v state)
