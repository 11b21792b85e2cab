use Rattle.std.proofs.Common.{arith, ◌<◌, length}
use Rattle.sort_term.specs.NodeTerms.{seen_term}
use Rattle.pair_examples.proofs.Nodes.{of_nodes}
use Rattle.pair_examples.proofs.matching.matched.Goals as goal

pub returns : goal.returns
returns g c =
    let first = g.D.Domain.look c.args.d.now in
    of_nodes (g.D.Domain.variables c.args.d.now) c.args.problem.now (g.D.Domain.look c.matches.new.d) (seen_term first c.new-left.result.term) (seen_term first c.new-right.result.term) c.args.point c.in_ok-matches.field-0 (omega (arith, c.if-len-point.false)) c.in_ok-matches.ensures.matched
