-- Variables that are bound to nodes.
use Rattle.std.specs.Prelude.{◌≡◌, ℕ, IsTrue, List, map, Option, Some, slice_get, length}
use Rattle.data_value.specs.declared.DataSort.{DataSort}
use Rattle.data_value.specs.Nodes.{Seen}
use Rattle.sort_term.specs.declared.term.Sort.{Sort}
use Rattle.sort_term.specs.declared.term.Sort.TheVariants.{Plain as PlainSort}
use Rattle.sort_term.specs.declared.term.Term.{Term}
use Rattle.sort_term.specs.declared.term.Term.TheVariants.{Plain}
use Rattle.sort_term.specs.declared.rule.Var.{Var}
use Rattle.unify.specs.Binds.{Bound, bound_at}

-- a sort of data
abbrev pub IsData : Option Sort → Type 0
IsData a = (s : DataSort) × (a ≡ Some (PlainSort s))

-- a term that is a valid node
abbrev pub IsValidNode : {N : Type 0} → Term (Seen N) → Type 0
IsValidNode {N} t = (s : Seen N) × (t ≡ Plain s) × IsTrue s.valid

-- each bound variable is bound to a valid node
pub record AreNodes {N : Type 0} (binds : Bound N) : Type 0 where
  pub at : (i : ℕ) (t : Term (Seen N)) → bound_at binds i ≡ Some t → IsValidNode t

-- each of the variables is bound to a valid node of its sort
pub record AreAllBound {N : Type 0} (vars : List Var) (binds : Bound N) : Type 0 where
  pub long : length binds ≡ length vars
  pub each : (i : ℕ) (x : Var) → slice_get vars i ≡ Some x → (s : Seen N) × (bound_at binds i ≡ Some (Plain s)) × IsTrue s.valid × (x.sort ≡ PlainSort s.sort)

-- a variable is bound to a valid node
abbrev pub IsBoundToNode : {N : Type 0} → Option (Term (Seen N)) → Type 0
IsBoundToNode {N} o = (s : Seen N) × (o ≡ Some (Plain s)) × IsTrue s.valid

-- variables that are bound to these nodes, one each
abbrev pub bound_to : {N : Type 0} → List (Seen N) → Bound N
bound_to nodes = map (λ s. Some (Plain s)) nodes
