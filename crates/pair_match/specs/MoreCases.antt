-- Cases that are added to others.
use Rattle.std.specs.Prelude.{◌↔◌, ◌⊎◌, ℕ, List, All, Any}
use Rattle.data_value.specs.declared.DataSort.{DataSort}
use Rattle.data_value.specs.declared.Value.{Value}
use Rattle.data_value.specs.Nodes.{IsValuation}
use Rattle.sort_term.specs.declared.points.Point.{Point}
use Rattle.sort_term.specs.declared.problem.Problem.{Problem}
use Rattle.sort_term.specs.Tree.{Tree, Trees}
use Rattle.sort_term.specs.Relation.{IsPoint, Relates}
use Rattle.probe_keys.specs.Cases.{SeenCase, IsCase, HoldsAt}

-- the new cases are the old ones and exactly what P says: under every valuation of the domain's variables some new case holds where some old one does or P
pub record AreMoreCases {N : Type 0} (variables : List DataSort) (P : List Value → Type 0) (old new : List (SeenCase N)) : Type 0 where
  pub each : All IsCase new
  pub exact : (v : List Value) → IsValuation variables v → Any (HoldsAt v) new ↔ (Any (HoldsAt v) old ⊎ P v)

-- the point with the number k relates two states
abbrev pub RelatedBy : Problem → ℕ → Tree → Tree → Type 0
RelatedBy q k a b = (p : Point) × (w : Trees) × IsPoint q k p × Relates q p w a b
