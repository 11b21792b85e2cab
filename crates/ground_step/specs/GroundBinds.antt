-- Variables that are bound to trees, and what is known of the valuations that agree with them.
use Rattle.std.specs.Prelude.{◌≡◌, Bool, IsTrue, List, [], length, Option}
use Rattle.data_value.specs.declared.Value.{Value}
use Rattle.data_value.specs.Ground.{ground_seen}
use Rattle.sort_term.specs.Tree.{Tree, Trees}
use Rattle.unify.specs.Binds.{Bound, seen_binds, Agrees}

-- bound trees as terms over values as nodes
abbrev pub ground_binds : List (Option Tree) → Bound Value
ground_binds binds = seen_binds ground_seen binds

-- the valuation gives each bound variable the tree that it is bound to
abbrev pub AgreesGround : List (Option Tree) → Trees → Type 0
AgreesGround binds v = Agrees [] (ground_binds binds) v

-- of the valuations that agree with the old bound variables, those with P are those that agree with the new ones, where the answer is yes; else there are none
pub record Restricts (old new : List (Option Tree)) (ok : Bool) (P : Trees → Type 0) : Type 0 where
  pub keeps : length new ≡ length old
  pub sound : (v : Trees) → AgreesGround new v → IsTrue ok → AgreesGround old v × P v
  pub complete : (v : Trees) → AgreesGround old v → P v → IsTrue ok × AgreesGround new v
