use Rattle.std.proofs.Common.{arith, ◌≡◌, ◌↔◌, ◌<◌, true, false, IsTrue, length, take, All, slice_index_or, refl, subst, sym, ◌∙◌}
use Rattle.std.proofs.lemmas.List.{take_all}
use Rattle.ground_step.proofs.Lists.{all_more}
use Rattle.ground_step.proofs.Cutting.{item_in, none_in}
use Rattle.ground_step.proofs.steps.in_cut.Goals as goal
use Rattle.sort_term.specs.Cuts.{IsCovered}

pub returns-then-branch : goal.returns-then-branch
returns-then-branch g c =
    let told : IsTrue c.in_ok-in_item.field-0 ↔ IsCovered c.args.semantics.now.cons c.cut-item.result c.args.state.now.term = c.in_ok-in_item.ensures in
    let l : c.loop-cut.cut-index < length c.args.cuts.now = rw c.as_slice-cut-items.ensures at c.loop-cut-test.true in
    let is : c.cut-item.result ≡ slice_index_or c.args.cuts.now c.loop-cut.cut-index c.cut-item.result = rw c.as_slice-cut-items.ensures at c.cut-item.is in
    (λ y. item_in c.args.semantics.now.cons c.args.cuts.now c.args.state.now.term c.loop-cut.cut-index c.cut-item.result l is (told.0 c.if-branch.true), λ x. refl)

pub loop-cut-preserved : goal.loop-cut-preserved
loop-cut-preserved g c =
    let told : IsTrue c.in_ok-in_item.field-0 ↔ IsCovered c.args.semantics.now.cons c.cut-item.result c.args.state.now.term = c.in_ok-in_item.ensures in
    let no : c.in_ok-in_item.field-0 ≡ false = c.if-branch.false in
    (all_more (λ item. ¬ IsCovered c.args.semantics.now.cons item c.args.state.now.term) c.as_slice-cut-items.result.now c.loop-cut.cut-index c.cut-item.result c.loop-cut-test.true c.cut-item.is).1 (
      c.loop-cut.invariant,
      λ k. let yes : c.in_ok-in_item.field-0 ≡ true = told.1 k in let q : true ≡ false = sym yes ∙ no in cc,
    )

pub returns : goal.returns
returns g c =
    let all : take c.loop-cut.cut-index c.as_slice-cut-items.result.now ≡ c.args.cuts.now = take_all c.loop-cut.cut-index c.as_slice-cut-items.result.now (omega arith) ∙ c.as_slice-cut-items.ensures in
    let none = subst (All (λ item. ¬ IsCovered c.args.semantics.now.cons item c.args.state.now.term)) all c.loop-cut.invariant in
    (λ y. absurd (cc), λ x. absurd (none_in c.args.semantics.now.cons c.args.cuts.now c.args.state.now.term none x))
