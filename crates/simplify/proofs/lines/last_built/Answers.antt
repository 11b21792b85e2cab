use Rattle.std.proofs.Common.{arith}
use Rattle.node_list.proofs.Lines.{stands_kept}
use Rattle.simplify.specs.Pairs.{seen_pairs}
use Rattle.simplify.proofs.BuiltLemmas.{built_length, built_last}
use Rattle.simplify.proofs.lines.last_built.Goals as goal

pub all_built-requires-clause-lines : goal.all_built-requires-clause-lines
all_built-requires-clause-lines g c = c.requires.lines.ordered

pub unreachable-requires : goal.unreachable-requires
unreachable-requires g c =
    let count = built_length (g.D.Domain.look c.all_built.new.d) (g.D.Domain.variables c.args.d.now) (seen_pairs (g.D.Domain.look c.args.d.now) c.args.pairs.now) c.args.lines.now c.in_ok-built.built.items c.in_ok-built.ensures.built in
    omega (arith, count, c.requires.lines.last.1, c.in-None.ensures.cases.0, c.in_ok-built.built.ok.0)

pub returns-clause-simpler : goal.returns-clause-simpler
returns-clause-simpler g c =
    let first = g.D.Domain.look c.args.d.now in
    let after = g.D.Domain.look c.all_built.new.d in
    let vars = g.D.Domain.variables c.args.d.now in
    let lines = c.args.lines.now in
    let last = c.requires.lines.last in
    let stands = stands_kept first after c.in_ok-built.ensures.extends lines (λ k line at. (c.requires.lines.ordered k line at).valid) last.0 (first c.args.node.now) last.2 in
    built_last after vars (seen_pairs first c.args.pairs.now) lines c.in_ok-built.built.items c.pop.new.self.items _ last.0 (first c.args.node.now) c.in_ok-built.ensures.built last.1 stands c.in-Some.ensures.items
