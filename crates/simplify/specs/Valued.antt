-- The values of nodes without variables.
use Rattle.std.specs.Prelude.{◌≡◌, ℕ, false, IsTrue, List, [], ◌∷◌, slice_get, Option, Some, None}
use Rattle.data_value.specs.declared.Value.{Value}
use Rattle.data_value.specs.Values.{IsValueOf}
use Rattle.data_value.specs.Nodes.{Seen, Apply}
use Rattle.data_value.specs.Views.{shown_args}
use Rattle.node_list.specs.declared.line.Line.{Line}
use Rattle.node_list.specs.declared.line.Made.{Made}
use Rattle.node_list.specs.declared.line.Made.TheVariants as made
use Rattle.simplify.specs.Closed.{closed_shown, is_closed}

-- A value of a node's sort, which the node means under every valuation.
abbrev pub IsWorth : {N : Type 0} → Seen N → Value → Type 0
IsWorth s x = IsValueOf s.sort x × ((v : List Value) → s.meaning v ≡ x)

-- Nothing, where a node has variables, or a value of its sort, which it means under every valuation.
abbrev pub IsValued : {N : Type 0} → (N → Seen N) → Seen N → Option Value → Type 0
IsValued look s None = closed_shown (is_closed look) s.shown ≡ false
IsValued look s (Some x) = IsWorth s x

-- The values at places are these.
abbrev pub AreFound : List (Option Value) → List ℕ → List Value → Type 0
AreFound values [] [] = Unit {0}
AreFound values [] (x ∷ xs) = ⊥
AreFound values (p ∷ ps) [] = ⊥
AreFound values (p ∷ ps) (x ∷ xs) = (slice_get values p ≡ Some (Some x)) × AreFound values ps xs

-- At one of these places is no value.
abbrev pub IsMissing : List (Option Value) → List ℕ → Type 0
IsMissing values places = (i : ℕ) × (p : ℕ) × (slice_get places i ≡ Some p) × (slice_get values p ≡ Some None)

-- At places are the values of these nodes, one by one.
abbrev pub AreValuedAt : {N : Type 0} → (N → Seen N) → List (Option Value) → List ℕ → List N → Type 0
AreValuedAt look values [] [] = Unit {0}
AreValuedAt look values [] (n ∷ ns) = ⊥
AreValuedAt look values (p ∷ ps) [] = ⊥
AreValuedAt look values (p ∷ ps) (n ∷ ns) = (IsTrue (look n).valid × ((o : Option Value) × (slice_get values p ≡ Some o) × IsValued look (look n) o)) × AreValuedAt look values ps ns

-- A line, where those before it have these values.
abbrev pub IsMadeValued : {N : Type 0} → (N → Seen N) → List (Option Value) → Seen N → Made → Type 0
IsMadeValued look values s made.Leaf = shown_args s.shown ≡ []
IsMadeValued {N} look values s (made.Apply op ps) = (args : List N) × (s.shown ≡ Apply op args) × AreValuedAt look values ps args

pub record IsReadyValued {N : Type 0} (look : N → Seen N) (values : List (Option Value)) (line : Line N) : Type 0 where
  pub valid : IsTrue (look line.node).valid
  pub made : IsMadeValued look values (look line.node) line.made

-- Lines have these values, one by one.
abbrev pub AreValued : {N : Type 0} → (N → Seen N) → List (Line N) → List (Option Value) → Type 0
AreValued look [] [] = Unit {0}
AreValued look [] (o ∷ os) = ⊥
AreValued look (line ∷ lines) [] = ⊥
AreValued look (line ∷ lines) (o ∷ os) = IsValued look (look line.node) o × AreValued look lines os
