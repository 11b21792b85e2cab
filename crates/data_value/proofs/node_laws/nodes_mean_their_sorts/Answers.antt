use Rattle.data_value.proofs.NodeLemmas.{has_sort, means_known}
use Rattle.data_value.proofs.node_laws.nodes_mean_their_sorts.Goals as goal

pub returns-clause-values : goal.returns-clause-values
returns-clause-values g c = λ d n. (g.met.D.Domain.laws d).sorted n

pub returns-clause-sorts : goal.returns-clause-sorts
returns-clause-sorts g c = λ d n. has_sort (g.D.Domain.look d) (g.D.Domain.variables d) (g.met.D.Domain.laws d) n

pub returns-clause-known : goal.returns-clause-known
returns-clause-known g c = λ d n. means_known (g.D.Domain.look d) (g.D.Domain.variables d) (g.met.D.Domain.laws d) n
