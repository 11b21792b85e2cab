-- Cases, and where they hold.
use Rattle.std.specs.Prelude.{◌≡◌, ℕ, true, IsTrue, List, map, All}
use Rattle.data_value.specs.declared.DataSort.TheVariants as sort
use Rattle.data_value.specs.declared.Value.{Value}
use Rattle.data_value.specs.Nodes.{Seen}
use Rattle.data_value.specs.Truth.{IsCondition, truth}
use Rattle.probe_keys.specs.declared.case.Case.{Case}
use Rattle.probe_keys.specs.declared.case.MapPair.{MapPair}

-- a pair of maps, with each node seen as all that it is
pub record SeenPair (N : Type 0) : Type 0 where
  pub left : Seen N
  pub right : Seen N

abbrev pub seen_pair : {N : Type 0} → (N → Seen N) → MapPair N → SeenPair N
seen_pair look p = record { left = look p.left; right = look p.right }

abbrev pub seen_pairs : {N : Type 0} → (N → Seen N) → List (MapPair N) → List (SeenPair N)
seen_pairs look pairs = map (seen_pair look) pairs

-- two nodes of one map sort
pub record AreMaps {N : Type 0} (p : SeenPair N) : Type 0 where
  pub left_valid : IsTrue p.left.valid
  pub right_valid : IsTrue p.right.valid
  pub key_width : ℕ
  pub word_width : ℕ
  pub left_sort : p.left.sort ≡ sort.Map key_width word_width
  pub right_sort : p.right.sort ≡ sort.Map key_width word_width

-- the maps of a pair are equal where the domain's variables have the values v
abbrev pub AreSame : {N : Type 0} → List Value → SeenPair N → Type 0
AreSame v p = p.left.meaning v ≡ p.right.meaning v

-- a case, with each node seen as all that it is
pub record SeenCase (N : Type 0) : Type 0 where
  pub test : Seen N
  pub maps : List (SeenPair N)

abbrev pub seen_case : {N : Type 0} → (N → Seen N) → Case N → SeenCase N
seen_case look c = record { test = look c.test; maps = seen_pairs look c.maps }

abbrev pub seen_cases : {N : Type 0} → (N → Seen N) → List (Case N) → List (SeenCase N)
seen_cases look cases = map (seen_case look) cases

-- its test is a node of sort bool, and its pairs are pairs of maps
pub record IsCase {N : Type 0} (c : SeenCase N) : Type 0 where
  pub test : IsCondition c.test
  pub maps : All AreMaps c.maps

-- the case holds where the domain's variables have the values v: its test is true and the maps of each pair are equal
pub record HoldsAt {N : Type 0} (v : List Value) (c : SeenCase N) : Type 0 where
  pub on : truth c.test v ≡ true
  pub same : All (AreSame v) c.maps
