use Rattle.std.proofs.Common.{arith, ◌≡◌, ◌<◌, ◌≤◌, length, get_or, slice_get, Some, All, sym, ap, ◌∙◌, subst}
use Rattle.std.proofs.lemmas.List.{length-map}
use Rattle.std.proofs.lemmas.Option.{slice_get-map}
use Rattle.std.specs.Prelude.{option_map}
use Rattle.data_value.specs.Truth.{truth}
use Rattle.data_value.proofs.Grown.{extends-both}
use Rattle.path_condition.specs.Leaves.{seen_leaf, seen_leaves, IsLeaf}
use Rattle.path_condition.proofs.LeafLemmas.{leaf_stays, leaves_same}
use Rattle.probe_keys.specs.Probed.{IsProbed}
use Rattle.probe_keys.proofs.Lengthened.{begins_both}
use Rattle.probe_keys.proofs.Turns.{item_at}
use Rattle.sort_term.proofs.Standing.{get-some}
use Rattle.pair_match.specs.Unmatched.{HasRightPartner}
use Rattle.point_questions.specs.declared.question.Flaw.TheVariants.{LeftFails}
use Rattle.point_questions.specs.Questions.{seen_point, seen_questions, IsLeftFailure}
use Rattle.point_questions.specs.Lists.{IsLeafOver}
use Rattle.point_questions.proofs.Asking.{all_at}
use Rattle.point_questions.proofs.Growing.{asked_more, asked_all, left_failure, left_failure_rank, left_failure_numbers}
use Rattle.point_questions.proofs.matching.left_failures.Goals as goal

pub left_unmatched-requires-clause-leaf : goal.left_unmatched-requires-clause-leaf
left_unmatched-requires-clause-leaf g c =
    let look = g.D.Domain.look in
    let first = look c.args.d.now in
    let sys = c.args.problem.now.left in
    let leaf = c.index-as_slice-place.result in
    let checked = item_at (IsLeaf sys) (seen_leaf first) c.args.point.now.left.met c.loop-place.place leaf (omega (arith, c.len-place-end.ensures, c.loop-place-test.true)) (rw c.as_slice.ensures at c.index-as_slice-place.is) c.requires.left in
    subst (IsLeaf sys) (sym (leaf_stays first (look c.loop-place.d) c.loop-place.invariant.extends sys leaf checked)) checked

pub left_unmatched-requires-clause-others : goal.left_unmatched-requires-clause-others
left_unmatched-requires-clause-others g c =
    let look = g.D.Domain.look in
    let sys = c.args.problem.now.right in
    rw c.as_slice-others.ensures (subst (All (IsLeaf sys)) (sym (leaves_same (look c.args.d.now) (look c.loop-place.d) c.loop-place.invariant.extends sys c.args.point.now.right.met c.requires.right)) c.requires.right)

pub returns-in_err-formula-clause-begins : goal.returns-in_err-formula-clause-begins
returns-in_err-formula-clause-begins g c =
    let sorts = g.D.Domain.variables in
    begins_both (sorts c.args.d.now) (sorts c.loop-place.d) (sorts c.left_unmatched.new.d) c.loop-place.invariant.begins c.in_err-formula.ensures.begins

pub returns-in_err-push-clause-begins : goal.returns-in_err-push-clause-begins
returns-in_err-push-clause-begins g c =
    let sorts = g.D.Domain.variables in
    begins_both (sorts c.args.d.now) (sorts c.loop-place.d) (sorts c.left_unmatched.new.d) c.loop-place.invariant.begins c.in_ok-formula.ensures.begins

pub loop-place-preserved : goal.loop-place-preserved
loop-place-preserved g c =
    let look = g.D.Domain.look in
    let sorts = g.D.Domain.variables in
    let first = look c.args.d.now in
    let now = look c.loop-place.d in
    let after = look c.left_unmatched.new.d in
    let vars = sorts c.args.d.now in
    let middle = sorts c.loop-place.d in
    let later = sorts c.left_unmatched.new.d in
    let q = c.args.problem.now in
    let x = seen_point first c.args.point.now in
    let met = c.args.point.now.left.met in
    let others = c.args.point.now.right.met in
    let k = c.loop-place.place in
    let leaf = c.index-as_slice-place.result in
    let formula = c.in_ok-formula.formula in
    let inv = c.loop-place.invariant in
    let l : k < length met = omega (arith, c.len-place-end.ensures, c.loop-place-test.true) in
    let is : leaf ≡ get_or met k leaf = rw c.as_slice.ensures at c.index-as_slice-place.is in
    let checked = item_at (IsLeaf q.left) (seen_leaf first) met k leaf l is c.requires.left in
    let same = leaf_stays first now inv.extends q.left leaf checked in
    let same_others = leaves_same first now inv.extends q.right others c.requires.right in
    let told : IsProbed middle later (truth (now leaf.condition)) (HasRightPartner q (seen_leaf now leaf) (seen_leaves now others)) (after formula) = rw c.as_slice-others.ensures at c.in_ok-formula.ensures.unmatched in
    let asks : IsProbed middle later (truth (first leaf.condition)) (HasRightPartner q (seen_leaf first leaf) (seen_leaves first others)) (after formula) =
    subst (λ ls. IsProbed middle later (truth (first leaf.condition)) (HasRightPartner q (seen_leaf first leaf) ls) (after formula)) same_others
    (subst (λ m. IsProbed middle later (truth m.condition) (HasRightPartner q m (seen_leaves now others)) (after formula)) same told) in
    let there : slice_get x.left.met k ≡ Some (seen_leaf first leaf) = slice_get-map (seen_leaf first) met k ∙ ap (option_map (seen_leaf first)) (get-some met k leaf l ∙ ap Some (sym is)) in
    record {
      extends = extends-both _ _ _ inv.extends c.in_ok-formula.ensures.extends;
      begins = begins_both vars middle later inv.begins c.in_ok-formula.ensures.begins;
      asked = λ variables over.
          let over_leaf = all_at (IsLeafOver variables) x.left.met k (seen_leaf first leaf) over.left there in
          asked_more IsLeftFailure (λ i. LeftFails i) q variables x now after c.in_ok-formula.ensures.extends middle later (g.met.D.Symbolic.views c.loop-place.d) c.in_ok-formula.ensures.begins (g.met.D.Domain.laws c.left_unmatched.new.d).sorts
          k c.loop-place.questions c.push.new.self formula (inv.asked variables over) tt
          (left_failure q variables vars later x over middle inv.begins (g.met.D.Domain.laws c.loop-place.d).sorts k (seen_leaf first leaf) (after formula) there over_leaf asks)
          c.in_ok-push.ensures.ok;
    }

pub returns-clause-asked : goal.returns-clause-asked
returns-clause-asked g c =
    let look = g.D.Domain.look in
    let x = seen_point (look c.args.d.now) c.args.point.now in
    let k = c.loop-place.place in
    let past : length x.left.met ≤ k = omega (arith, length-map c.args.point.now.left.met (seen_leaf (look c.args.d.now)), c.len-place-end.ensures, c.loop-place-test.false) in
    λ variables over.
    asked_all IsLeftFailure (λ i. LeftFails i) c.args.problem.now variables x (g.D.Domain.variables c.loop-place.d) k 9 (seen_questions (look c.loop-place.d) c.loop-place.questions) left_failure_rank (left_failure_numbers x k past) (c.loop-place.invariant.asked variables over)
