use Rattle.data_value.proofs.NodeLemmas.{depends}
use Rattle.data_value.proofs.node_laws.nodes_depend_on_variables.Goals as goal

pub returns : goal.returns
returns g c = λ d n. depends (g.D.Domain.look d) (g.D.Domain.variables d) (g.met.D.Symbolic.views d).shows n
