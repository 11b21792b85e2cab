use Rattle.std.proofs.Common.{arith, All, sym, ◌∙◌, subst}
use Rattle.data_value.proofs.Grown.{extends-both}
use Rattle.simplify.specs.Pairs.{seen_pairs, IsPair}
use Rattle.simplify.specs.Built.{IsReady}
use Rattle.simplify.specs.Simpler.{IsSimplerUnder}
use Rattle.simplify.proofs.BuiltLemmas.{line_ready, built_more, built_count}
use Rattle.simplify.proofs.PairLemmas.{pairs_kept}
use Rattle.simplify.proofs.RootLemmas.{valued_length, worth_at}
use Rattle.simplify.proofs.lines.all_built.Goals as goal

pub scalar_at-scalar-requires : goal.scalar_at-scalar-requires
scalar_at-scalar-requires g c =
    let first = g.D.Domain.look c.args.d.now in
    let pairs = seen_pairs first c.args.pairs.now in
    let count = built_count (g.D.Domain.look c.loop-line.d) (g.D.Domain.variables c.args.d.now) pairs c.args.lines.now c.loop-line.built.items c.loop-line.line-index c.loop-line-test.true c.loop-line.invariant.built in
    let values = valued_length first c.args.lines.now c.args.values.now c.requires.values in
    omega (arith, c.len.ensures, count, values, c.loop-line-test.true, c.loop-line.built.ok.0)

pub built_line-requires-clause-ready : goal.built_line-requires-clause-ready
built_line-requires-clause-ready g c =
    let first = g.D.Domain.look c.args.d.now in
    let look = g.D.Domain.look c.loop-line.d in
    let vars = g.D.Domain.variables c.args.d.now in
    let pairs = seen_pairs first c.args.pairs.now in
    let ready = line_ready vars pairs first look c.loop-line.invariant.extends c.args.lines.now c.loop-line.built.items c.loop-line.line-index c.line-item.result c.requires.lines c.loop-line-test.true c.line-item.is c.loop-line.invariant.built in
    subst (λ ns. IsReady (g.D.Domain.variables c.loop-line.d) (seen_pairs look c.args.pairs.now) look ns c.line-item.result) (sym c.as_slice.ensures.value)
    (subst (λ ps. IsReady (g.D.Domain.variables c.loop-line.d) ps look c.loop-line.built.items c.line-item.result) (sym (pairs_kept first look c.loop-line.invariant.extends c.args.pairs.now c.requires.pairs))
    (subst (λ ss. IsReady ss pairs look c.loop-line.built.items c.line-item.result) (sym c.loop-line.invariant.same_variables) ready))

pub built_line-requires-clause-worth : goal.built_line-requires-clause-worth
built_line-requires-clause-worth g c =
    let first = g.D.Domain.look c.args.d.now in
    let look = g.D.Domain.look c.loop-line.d in
    let pairs = seen_pairs first c.args.pairs.now in
    let count = built_count look (g.D.Domain.variables c.args.d.now) pairs c.args.lines.now c.loop-line.built.items c.loop-line.line-index c.loop-line-test.true c.loop-line.invariant.built in
    worth_at first look c.loop-line.invariant.extends c.args.lines.now c.args.values.now c.loop-line.line-index c.len.result c.line-item.result _ c.requires.lines c.requires.values c.loop-line-test.true c.line-item.is (omega (arith, c.len.ensures, count, c.loop-line.built.ok.0)) c.scalar_at-scalar.ensures

pub built_line-requires-clause-pairs : goal.built_line-requires-clause-pairs
built_line-requires-clause-pairs g c =
    let first = g.D.Domain.look c.args.d.now in
    let look = g.D.Domain.look c.loop-line.d in
    subst (All IsPair) (sym (pairs_kept first look c.loop-line.invariant.extends c.args.pairs.now c.requires.pairs)) c.requires.pairs

pub returns-in_err-node-clause-extends : goal.returns-in_err-node-clause-extends
returns-in_err-node-clause-extends g c = extends-both _ _ _ c.loop-line.invariant.extends c.in_err-node.ensures.extends

pub returns-in_err-push-clause-extends : goal.returns-in_err-push-clause-extends
returns-in_err-push-clause-extends g c = extends-both _ _ _ c.loop-line.invariant.extends c.in_ok-node.ensures.extends

pub loop-line-preserved : goal.loop-line-preserved
loop-line-preserved g c =
    let first = g.D.Domain.look c.args.d.now in
    let look = g.D.Domain.look c.loop-line.d in
    let after = g.D.Domain.look c.built_line.new.d in
    let vars = g.D.Domain.variables c.args.d.now in
    let pairs = seen_pairs first c.args.pairs.now in
    let same = pairs_kept first look c.loop-line.invariant.extends c.args.pairs.now c.requires.pairs in
    let simpler : IsSimplerUnder vars pairs (look c.line-item.result.node) (after c.in_ok-node.node) =
    subst (λ ps. IsSimplerUnder vars ps (look c.line-item.result.node) (after c.in_ok-node.node)) same
    (subst (λ ss. IsSimplerUnder ss (seen_pairs look c.args.pairs.now) (look c.line-item.result.node) (after c.in_ok-node.node)) c.loop-line.invariant.same_variables c.in_ok-node.ensures.simpler) in
    record {
      extends = extends-both first look after c.loop-line.invariant.extends c.in_ok-node.ensures.extends;
      same_variables = c.in_ok-node.ensures.same_variables ∙ c.loop-line.invariant.same_variables;
      built = built_more vars pairs first look after c.loop-line.invariant.extends c.in_ok-node.ensures.extends c.args.lines.now c.loop-line.built.items c.push.new.self.items c.loop-line.line-index c.line-item.result c.in_ok-node.node
          c.requires.lines c.loop-line-test.true c.line-item.is c.loop-line.invariant.built simpler c.in_ok-push.ensures.items;
    }
