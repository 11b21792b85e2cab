use Rattle.std.proofs.Common.{arith, ◌≡◌, ◌<◌, false, length, get_or, sym, ap, ◌∙◌, subst}
use Rattle.std.proofs.lemmas.List.{get_or_default}
use Rattle.data_value.specs.declared.DataSort.TheVariants.{Bool as BoolSort}
use Rattle.data_value.specs.declared.Scalar.TheVariants.{Flag}
use Rattle.data_value.specs.declared.Value.TheVariants.{One}
use Rattle.data_value.specs.Views.{value_at}
use Rattle.prover.specs.Usage.{IsClearedValue}
use Rattle.prover.proofs.Pieces.{marked_at, unmarked_at}
use Rattle.prover.proofs.Clears.{counted, clearing_more, cleared_all}
use Rattle.prover.proofs.clearing.cleared.Goals as goal

pub loop-index-preserved : goal.loop-index-preserved
loop-index-preserved c =
    let sorts = c.args.sorts.now in
    let used = c.args.used.now in
    let v = c.args.valuation.now in
    let i = c.loop-index.index in
    let value = c.index-values-index.result in
    let within : i < length v = omega (arith, c.loop-index-test.true, counted sorts v c.requires.valuation) in
    let value_is : get_or c.as_slice-values.result.now i value ≡ value_at v i = ap (λ u. get_or u i value) c.as_slice-values.ensures ∙ get_or_default v i value (One (Flag false)) within in
    clearing_more sorts used v c.loop-index.cleared c.push.new.self i (get_or sorts i BoolSort) (get_or used i false) c.in_ok-value.value c.loop-index-test.true (sym (get_or_default sorts i _ BoolSort c.loop-index-test.true))
    (marked_at used i (omega (arith, c.loop-index-test.true, c.requires.count))) (unmarked_at used i) (subst (λ u. IsClearedValue (get_or sorts i BoolSort) (get_or used i false) u c.in_ok-value.value) (c.index-values-index.is ∙ value_is) c.in_ok-value.ensures) c.in_ok-push.ensures.ok c.loop-index.invariant

pub returns : goal.returns
returns c = cleared_all c.args.sorts.now c.args.used.now c.args.valuation.now c.loop-index.cleared c.loop-index.index (omega (arith, c.loop-index-test.false, c.loop-index.auto.index-end)) c.requires.count c.loop-index.invariant
