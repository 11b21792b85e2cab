-- Simpler nodes.
use Rattle.std.specs.Prelude.{◌≡◌, ◌+◌, ◌≤◌, IsTrue, List, [], ◌∷◌, Some}
use Rattle.data_value.specs.declared.DataSort.{DataSort}
use Rattle.data_value.specs.declared.Value.{Value}
use Rattle.data_value.specs.declared.Op.{Op}
use Rattle.data_value.specs.Sorts.{op_sort}
use Rattle.data_value.specs.Ops.{op_value}
use Rattle.data_value.specs.Nodes.{Seen, IsValuation, sorts_of, meanings_of, sizes_of}
use Rattle.simplify.specs.Pairs.{Equated, AgreesOn, AreShorter}

-- A node t has the sort of s, is no larger, and means the same under every valuation of the variables.
pub record IsSimpler {N : Type 0} (variables : List DataSort) (s t : Seen N) : Type 0 where
  pub valid : IsTrue t.valid
  pub sort : t.sort ≡ s.sort
  pub means : (v : List Value) → IsValuation variables v → t.meaning v ≡ s.meaning v
  pub small : t.size ≤ s.size

-- A node t has the sort of s, means the same under every valuation of the variables that gives the two nodes of each pair one meaning,
-- and is no larger where no second node of a pair is larger than its first.
pub record IsSimplerUnder {N : Type 0} (variables : List DataSort) (pairs : List (Equated N)) (s t : Seen N) : Type 0 where
  pub valid : IsTrue t.valid
  pub sort : t.sort ≡ s.sort
  pub means : (v : List Value) → AgreesOn variables pairs v → t.meaning v ≡ s.meaning v
  pub small : AreShorter pairs → t.size ≤ s.size

-- A node t is simpler than an operator at nodes: it has the sort that the operator gives them, means what the operator gives them
-- under every valuation of the variables, and has at most one node more than they have together.
pub record IsSimplerThan {N : Type 0} (variables : List DataSort) (look : N → Seen N) (op : Op) (args : List N) (t : Seen N) : Type 0 where
  pub valid : IsTrue t.valid
  pub sort : op_sort op (sorts_of look args) ≡ Some t.sort
  pub means : (v : List Value) → IsValuation variables v → t.meaning v ≡ op_value op (meanings_of look v args)
  pub small : t.size ≤ 1 + sizes_of look args

-- Nodes are simpler than others, one by one.
abbrev pub AreSimpler : {N : Type 0} → List DataSort → List (Equated N) → (N → Seen N) → List N → List N → Type 0
AreSimpler variables pairs look [] [] = Unit {0}
AreSimpler variables pairs look [] (n ∷ ns) = ⊥
AreSimpler variables pairs look (m ∷ ms) [] = ⊥
AreSimpler variables pairs look (m ∷ ms) (n ∷ ns) = IsSimplerUnder variables pairs (look m) (look n) × AreSimpler variables pairs look ms ns
