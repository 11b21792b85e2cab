-- Answers of `matches` whose nodes are valid.
use Rattle.std.specs.Prelude.{⊤, IsTrue, All}
use Rattle.data_value.specs.Nodes.{Seen, AllValid}
use Rattle.probe_keys.specs.declared.case.MapPair.{MapPair}
use Rattle.pair_match.specs.declared.matching.Match.{Match}
use Rattle.pair_match.specs.declared.matching.Match.TheVariants.{Apart, When}

-- both maps of a pair are valid
pub record IsPairOfNodes {N : Type 0} (look : N → Seen N) (p : MapPair N) : Type 0 where
  pub left : IsTrue (look p.left).valid
  pub right : IsTrue (look p.right).valid

-- the test, what the point's variables are, and all maps are valid
abbrev pub IsOfNodes : {N : Type 0} → (N → Seen N) → Match N → Type 0
IsOfNodes look Apart = ⊤
IsOfNodes look (When binds test maps) = AllValid look binds × IsTrue (look test).valid × All (IsPairOfNodes look) maps
