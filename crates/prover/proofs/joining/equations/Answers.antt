use Rattle.std.proofs.Common.{take, sym, ◌∙◌, subst}
use Rattle.data_value.proofs.Grown.{extends-both}
use Rattle.prover.specs.Parts.{IsEquation, AreEquated}
use Rattle.prover.proofs.Joins.{equated_more}
use Rattle.prover.proofs.joining.equations.Goals as goal

pub loop-pair-preserved : goal.loop-pair-preserved
loop-pair-preserved g c =
    let first = g.D.Domain.look c.args.d.now in
    let look = g.D.Domain.look c.loop-pair.d in
    let equated = g.D.Domain.look c.equal.new.d in
    let after = g.D.Domain.look c.both.new.d in
    let pairs = c.args.pairs.now in
    let grown = c.loop-pair.invariant.extends in
    record {
      extends = extends-both first equated after (extends-both first look equated grown c.in_ok-equation.ensures.extends) c.in_ok-joined-2.ensures.extends;
      same_variables = c.in_ok-joined-2.ensures.same_variables ∙ c.in_ok-equation.ensures.same_variables ∙ c.loop-pair.invariant.same_variables;
      means = equated_more first look after pairs c.loop-pair.pair-index c.pair-item.result (equated c.loop-pair.joined) (equated c.in_ok-equation.equation) (after c.in_ok-joined-2.joined) grown c.loop-pair-test.true c.pair-item.is
          (subst (IsEquation first) (sym c.pair-item.is) (c.requires c.loop-pair.pair-index c.pair-item.result c.loop-pair-test.true))
          (subst (AreEquated first (take c.loop-pair.pair-index pairs)) (sym (c.in_ok-equation.ensures.extends.keeps c.loop-pair.joined c.loop-pair.invariant.means.condition.valid)) c.loop-pair.invariant.means) c.in_ok-equation.ensures.means c.in_ok-joined-2.ensures.means;
    }
