-- Leaves and branches whose nodes are valid.
use Rattle.std.specs.Prelude.{IsTrue}
use Rattle.data_value.specs.Nodes.{Seen}
use Rattle.sort_term.specs.NodeTerms.{seen_term, is_valid_term}
use Rattle.unify.specs.declared.branch.Branch.{Branch}
use Rattle.path_condition.specs.declared.leaf.Leaf.{Leaf}

-- a leaf's condition and the nodes of its configuration are valid
pub record EndsAtNodes {S N : Type 0} (look : N → Seen N) (l : Leaf S N) : Type 0 where
  pub condition : IsTrue (look l.condition).valid
  pub state : IsTrue (is_valid_term (seen_term look l.config.term))

-- a branch's condition and the nodes of its result are valid
pub record LeadsToNodes {S N : Type 0} (look : N → Seen N) (b : Branch S N) : Type 0 where
  pub condition : IsTrue (look b.condition).valid
  pub state : IsTrue (is_valid_term (seen_term look b.«result».term))
