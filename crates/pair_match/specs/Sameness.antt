-- Equations that have to be true and maps that have to be equal.
use Rattle.std.specs.Prelude.{◌↔◌, List, [], map, All}
use Rattle.data_value.specs.declared.DataSort.{DataSort}
use Rattle.data_value.specs.declared.Value.{Value}
use Rattle.data_value.specs.Nodes.{Seen, IsValuation}
use Rattle.data_value.specs.Truth.{IsCondition, AreTrue}
use Rattle.sort_term.specs.Tree.{Trees}
use Rattle.unify.specs.Binds.{Bound, Agrees}
use Rattle.probe_keys.specs.Cases.{SeenPair, seen_pairs, AreMaps, AreSame}
use Rattle.pair_match.specs.declared.sameness.Sameness.{Sameness}

-- equations and pairs of maps, with each node seen as all that it is
pub record SeenSameness (N : Type 0) : Type 0 where
  pub equations : List (Seen N)
  pub maps : List (SeenPair N)

abbrev pub seen_sameness : {N : Type 0} → (N → Seen N) → Sameness N → SeenSameness N
seen_sameness look s = record { equations = map look s.equations; maps = seen_pairs look s.maps }

abbrev pub nothing : {N : Type 0} → SeenSameness N
nothing = record { equations = []; maps = [] }

-- the equations are conditions, and each pair is one of maps of one sort
pub record IsSameness {N : Type 0} (s : SeenSameness N) : Type 0 where
  pub equations : All IsCondition s.equations
  pub maps : All AreMaps s.maps

-- where the domain's variables have the values v, all equations are true and the maps of each pair are equal
pub record SamenessHolds {N : Type 0} (v : List Value) (s : SeenSameness N) : Type 0 where
  pub equal : AreTrue v s.equations
  pub same : All (AreSame v) s.maps

-- what was added holds exactly where P does
pub record AddsSameness {N : Type 0} (variables : List DataSort) (old new : SeenSameness N) (P : List Value → Type 0) : Type 0 where
  pub lawful : IsSameness new
  pub exact : (v : List Value) → IsValuation variables v → SamenessHolds v new ↔ (SamenessHolds v old × P v)

-- what was added holds exactly where P does of the valuations that give each bound variable the tree that its term means
pub record AddsWhere {N : Type 0} (variables : List DataSort) (binds : Bound N) (old new : SeenSameness N) (P : List Value → Trees → Type 0) : Type 0 where
  pub lawful : IsSameness new
  pub exact : (v : List Value) → IsValuation variables v → (w : Trees) → Agrees v binds w → SamenessHolds v new ↔ (SamenessHolds v old × P v w)
