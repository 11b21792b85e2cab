use Rattle.std.proofs.Common.{take, sym, ◌∙◌, subst}
use Rattle.data_value.proofs.Grown.{extends-both}
use Rattle.data_value.specs.Truth.{IsCondition}
use Rattle.simplify.specs.Pairs.{seen_pairs}
use Rattle.simplify.specs.Simpler.{IsSimplerUnder}
use Rattle.prover.specs.Parts.{AreAllReplaced}
use Rattle.prover.proofs.Joins.{pairs_of, replaced_more}
use Rattle.prover.proofs.joining.all_replaced.Goals as goal

pub replaced-requires-clause-pairs : goal.replaced-requires-clause-pairs
replaced-requires-clause-pairs g c = pairs_of (g.D.Domain.look c.args.d.now) (g.D.Domain.look c.loop-condition.d) c.loop-condition.invariant.extends c.args.pairs.now c.requires.pairs

pub loop-condition-preserved : goal.loop-condition-preserved
loop-condition-preserved g c =
    let first = g.D.Domain.look c.args.d.now in
    let look = g.D.Domain.look c.loop-condition.d in
    let simplified = g.D.Domain.look c.replaced.new.d in
    let after = g.D.Domain.look c.both.new.d in
    let vars = g.D.Domain.variables c.args.d.now in
    let grown = c.loop-condition.invariant.extends in
    record {
      extends = extends-both first simplified after (extends-both first look simplified grown c.in_ok-simpler.ensures.extends) c.in_ok-joined-2.ensures.extends;
      same_variables = c.in_ok-joined-2.ensures.same_variables ∙ c.in_ok-simpler.ensures.same_variables ∙ c.loop-condition.invariant.same_variables;
      means = replaced_more first look after vars c.args.pairs.now c.args.conditions.now c.loop-condition.condition-index c.condition-item.result (simplified c.loop-condition.joined) (simplified c.in_ok-simpler.simpler) (after c.in_ok-joined-2.joined) grown
          (g.met.D.Domain.laws c.args.d.now) c.requires.pairs c.loop-condition-test.true c.condition-item.is
          (subst (λ n. IsCondition (first n)) (sym c.condition-item.is) (c.requires.conditions c.loop-condition.condition-index c.condition-item.result c.loop-condition-test.true))
          (subst (AreAllReplaced vars first c.args.pairs.now (take c.loop-condition.condition-index c.args.conditions.now)) (sym (c.in_ok-simpler.ensures.extends.keeps c.loop-condition.joined c.loop-condition.invariant.means.condition.valid)) c.loop-condition.invariant.means)
          (subst (λ ss. IsSimplerUnder ss (seen_pairs look c.args.pairs.now) (look c.condition-item.result) (simplified c.in_ok-simpler.simpler)) c.loop-condition.invariant.same_variables c.in_ok-simpler.ensures.simpler)
          c.in_ok-joined-2.ensures.means;
    }
