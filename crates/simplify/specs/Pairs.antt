-- Pairs of nodes, of which the second may stand in the place of the first.
use Rattle.std.specs.Prelude.{◌≡◌, ◌≤◌, ℕ, IsTrue, List, map, slice_get, All, Some}
use Rattle.data_value.specs.declared.DataSort.{DataSort}
use Rattle.data_value.specs.declared.Value.{Value}
use Rattle.data_value.specs.Nodes.{Seen, IsValuation}
use Rattle.simplify.specs.declared.pair.Pair.{Pair}

-- Two nodes, as they look.
abbrev pub Equated : Type 0 → Type 0
Equated N = Seen N × Seen N

-- The nodes of a pair, as they look.
abbrev pub seen_pair : {N : Type 0} → (N → Seen N) → Pair N → Equated N
seen_pair look p = (look p.first, look p.second)

-- The nodes of pairs, as they look.
abbrev pub seen_pairs : {N : Type 0} → (N → Seen N) → List (Pair N) → List (Equated N)
seen_pairs look pairs = map (seen_pair look) pairs

-- Two nodes of one sort.
pub record IsPair {N : Type 0} (p : Equated N) : Type 0 where
  pub first : IsTrue p.0.valid
  pub second : IsTrue p.1.valid
  pub sort : p.1.sort ≡ p.0.sort

-- A valuation of the variables gives the two nodes of each pair one meaning.
pub record AgreesOn {N : Type 0} (variables : List DataSort) (pairs : List (Equated N)) (v : List Value) : Type 0 where
  pub fits : IsValuation variables v
  pub same : All (λ p. p.1.meaning v ≡ p.0.meaning v) pairs

-- No second node is larger than the first.
abbrev pub AreShorter : {N : Type 0} → List (Equated N) → Type 0
AreShorter pairs = All (λ p. p.1.size ≤ p.0.size) pairs

-- The second node of a pair whose first is kept under the number i looks as s.
abbrev pub IsSecond : {N : Type 0} → (N → Seen N) → List (Pair N) → ℕ → Seen N → Type 0
IsSecond {N} look pairs i s = (k : ℕ) × (p : Pair N) × (slice_get pairs k ≡ Some p) × ((look p.first).id ≡ Some i) × (look p.second ≡ s)

-- No first node of a pair is kept under the number i.
abbrev pub IsUnpaired : {N : Type 0} → (N → Seen N) → List (Pair N) → ℕ → Type 0
IsUnpaired {N} look pairs i = (k : ℕ) (p : Pair N) → slice_get pairs k ≡ Some p → (look p.first).id ≡ Some i → ⊥
