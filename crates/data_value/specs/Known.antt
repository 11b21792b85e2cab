-- Nodes that are known, and operators at them.
use Rattle.std.specs.Prelude.{◌≡◌, List, map, Some}
use Rattle.data_value.specs.declared.Scalar.{Scalar}
use Rattle.data_value.specs.declared.Value.{Value}
use Rattle.data_value.specs.declared.Value.TheVariants.{One}
use Rattle.data_value.specs.declared.Op.{Op}
use Rattle.data_value.specs.Sorts.{op_sort}
use Rattle.data_value.specs.Values.{IsScalar, scalar_sort}
use Rattle.data_value.specs.Ops.{op_value}
use Rattle.data_value.specs.Nodes.{Seen, AllKnown, sorts_of, meanings_of}

-- Nodes are known as these scalars.
abbrev pub AreKnown : {N : Type 0} → (N → Seen N) → List N → List Scalar → Type 0
AreKnown look ns ss = map (λ n. (look n).known) ns ≡ map Some ss

-- Nodes are known, and an operator gives them this scalar under every valuation.
pub record IsFolded {N : Type 0} (look : N → Seen N) (op : Op) (ns : List N) (c : Scalar) : Type 0 where
  pub known : AllKnown look ns
  pub scalar : IsScalar c
  pub sort : op_sort op (sorts_of look ns) ≡ Some (scalar_sort c)
  pub means : (v : List Value) → op_value op (meanings_of look v ns) ≡ One c
