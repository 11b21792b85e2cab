-- What a domain's nodes are, and what it is for a domain to grow.
use Rattle.std.specs.Prelude.{◌≡◌, ℕ, ◌+◌, ◌≤◌, Bool, IsTrue, List, map, sum_by, All, Option, Some, None, IsSome}
use Rattle.data_value.specs.declared.DataSort.{DataSort}
use Rattle.data_value.specs.declared.Scalar.{Scalar}
use Rattle.data_value.specs.declared.Value.{Value}
use Rattle.data_value.specs.declared.Value.TheVariants as value
use Rattle.data_value.specs.declared.Op.{Op}
use Rattle.data_value.specs.Sorts.{IsSort, is_scalar_sort, op_sort}
use Rattle.data_value.specs.Values.{IsValue, IsValueOf, value_sort}
use Rattle.data_value.specs.Ops.{op_value}

-- What a node is made of: a variable, a constant, or an operator at nodes.
pub data Shown (N : Type 0) : Type 0 where
  Variable : ℕ → Shown N
  Constant : Value → Shown N
  Apply : Op → List N → Shown N

-- All that a node is in a domain.
pub record Seen (N : Type 0) : Type 0 where
  -- whether it is one of the domain's nodes
  pub valid : Bool
  pub sort : DataSort
  -- the scalar that it is known to mean
  pub known : Option Scalar
  -- the value that it means where the variables have these values
  pub meaning : List Value → Value
  pub shown : Shown N
  -- the number under which it is kept
  pub id : Option ℕ
  -- a number that falls from a node to its arguments
  pub height : ℕ
  -- how many nodes it has as a tree
  pub size : ℕ

-- Every node that was valid before is the same node afterwards, in all that it is.
pub record Extends {N : Type 0} (before after : N → Seen N) : Type 0 where
  pub keeps : (n : N) → IsTrue (before n).valid → after n ≡ before n

-- A valuation of variables of these sorts gives each, in their order, a value of its sort.
pub record IsValuation (sorts : List DataSort) (v : List Value) : Type 0 where
  pub values : All IsValue v
  pub sorted : map value_sort v ≡ sorts

-- Every node of a list is valid, and every one is known.
abbrev pub AllValid : {N : Type 0} → (N → Seen N) → List N → Type 0
AllValid look nodes = All (λ n. IsTrue (look n).valid) nodes

abbrev pub AllKnown : {N : Type 0} → (N → Seen N) → List N → Type 0
AllKnown look nodes = All (λ n. IsSome (look n).known) nodes

-- The sorts of nodes, their meanings where the variables have these values, and how many nodes they have as trees.
abbrev pub sorts_of : {N : Type 0} → (N → Seen N) → List N → List DataSort
sorts_of look = map (λ n. (look n).sort)

abbrev pub meanings_of : {N : Type 0} → (N → Seen N) → List Value → List N → List Value
meanings_of look v = map (λ n. (look n).meaning v)

abbrev pub sizes_of : {N : Type 0} → (N → Seen N) → List N → ℕ
sizes_of look nodes = sum_by (λ n. (look n).size) nodes

-- The scalar that a value is, none where it is a map.
abbrev pub known_scalar : Value → Option Scalar
known_scalar (value.One s) = Some s
known_scalar (value.Map m) = None

-- A node that means a value under every valuation; it is known where the value is a scalar.
pub record IsConstant {N : Type 0} (look : N → Seen N) (x : Value) (n : N) : Type 0 where
  pub valid : IsTrue (look n).valid
  pub sort : (look n).sort ≡ value_sort x
  pub means : (v : List Value) → (look n).meaning v ≡ x
  pub knows : (look n).known ≡ known_scalar x

-- A node, after a call, that means the value of an operator at nodes that were there before it.
pub record IsApplied {N : Type 0} (before after : N → Seen N) (op : Op) (args : List N) (n : N) : Type 0 where
  pub valid : IsTrue (after n).valid
  pub sort : op_sort op (sorts_of before args) ≡ Some (after n).sort
  pub means : (v : List Value) → (after n).meaning v ≡ op_value op (meanings_of before v args)
  -- it is known where it is a scalar and all arguments are known
  pub knows : IsTrue (is_scalar_sort (after n).sort) → AllKnown before args → IsSome (after n).known
  -- as a tree it has at most one node more than the arguments together
  pub small : (after n).size ≤ 1 + sizes_of before args

-- What holds of every domain.
pub record IsLawful {N : Type 0} (look : N → Seen N) (variables : List DataSort) : Type 0 where
  -- its variables have sorts
  pub sorts : All IsSort variables
  -- under every valuation a node means a value of its sort
  pub sorted : (n : N) → IsTrue (look n).valid → (v : List Value) → IsValuation variables v → IsValueOf (look n).sort ((look n).meaning v)
  -- a node that is known means the scalar as which it is known
  pub known : (n : N) (c : Scalar) → IsTrue (look n).valid → (look n).known ≡ Some c → (v : List Value) → (look n).meaning v ≡ value.One c
