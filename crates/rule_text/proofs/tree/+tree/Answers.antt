use Rattle.std.proofs.Common.{rules, ◌≡◌, IsTrue, IfOk, List, [], map, ap, sym, subst}
use Rattle.sexp_text.specs.Printed.{without_spans}
use Rattle.sexp_text.specs.declared.form.Form.{Form}
use Rattle.rule_text.specs.Plain.{plain_list}
use Rattle.rule_text.specs.Written.{written_tree}
use Rattle.rule_text.specs.Writes.{WritesTree}
use Rattle.rule_text.specs.Lawful.{is_lawful_tree}
use Rattle.rule_text.proofs.Lists.{map_pushed, map_whole, All_pushed, both_ok, value_at}
use Rattle.rule_text.proofs.Slices.{list_0, list_cons}
use Rattle.rule_text.proofs.Trees.{ListTree, list_tree}
use Rattle.rule_text.proofs.TreeShapes.{split_tree, behind_front, bits_written, no_nothing, no_bits, front_of, args_behind, all_written}
use Rattle.rule_text.proofs.tree.+tree.Goals as goal

pub list_tree-returns-in_default-clause-refused : goal.list_tree-returns-in_default-clause-refused
list_tree-returns-in_default-clause-refused t c =
    let none : map without_spans c.args.forms.now ≡ [] = ap (map without_spans) (list_0 c.args.forms.now c.in_default.len_below) in
    λ _ tree w. no_nothing c.args.place tree (subst (λ (fs : List Form). ListTree c.args.place fs tree) none (list_tree c.args.place (map without_spans c.args.forms.now) tree w))

pub list_tree-returns-in_default-number_pair-clause-refused : goal.list_tree-returns-in_default-number_pair-clause-refused
list_tree-returns-in_default-number_pair-clause-refused t c =
    λ _ tree w. no_bits _ _ _ _ (c.is_word.ensures.0 c.if-is_word.true) (c.number_pair.ensures.none (search rules)) (split_tree _ _ _ _ c.in-len1-up.len_at_least c.front-item.is w)

pub list_tree-returns-then-is_word-clause-ok : goal.list_tree-returns-then-is_word-clause-ok
list_tree-returns-then-is_word-clause-ok t c = bits_written _ _ _ _ _ c.in-len1-up.len_at_least c.front-item.is (c.is_word.ensures.0 c.if-is_word.true) (search rules)

pub list_tree-returns-in_err-name-clause-refused : goal.list_tree-returns-in_err-name-clause-refused
list_tree-returns-in_err-name-clause-refused t c =
    λ e tree w. let front = front_of _ _ _ tree (λ is. absurd (search rules)) (λ is. absurd (search rules)) (split_tree _ _ _ _ c.in-len1-up.len_at_least c.front-item.is w) in
    c.in_err-name.ensures.refused (search rules) front.0 front.1

pub list_tree-returns-in-Err-clause-refused : goal.list_tree-returns-in-Err-clause-refused
list_tree-returns-in-Err-clause-refused t c =
    λ e tree w. let args = args_behind _ _ _ tree (λ is. absurd (search rules)) (λ is. absurd (search rules)) (split_tree _ _ _ _ c.in-len1-up.len_at_least c.front-item.is w) _ _ _ c.len.ensures c.in_ok-name.ensures.ok in
    let here = value_at without_spans written_tree (λ tree. IsTrue (is_lawful_tree c.args.place tree)) _ args.0 _ _ args.1.spelled args.1.lawful c.loop-form-test.true c.form-item.is in
    c.tree.ensures.refused (c.push.ensures.refused (search rules)) here.0 record { spelled = here.1; lawful = here.2 }

pub list_tree-loop-form-preserved : goal.list_tree-loop-form-preserved
list_tree-loop-form-preserved t c =
    let pushed = both_ok _ _ (WritesTree c.args.place (without_spans c.form-item.result)) (c.push.ensures.ok (search rules)) c.tree.ensures.ok in
    record {
      spelled = map_pushed without_spans written_tree _ _ _ _ _ _ c.loop-form-test.true c.form-item.is c.loop-form.invariant.spelled pushed.2.spelled pushed.1;
      lawful = All_pushed (λ tree. IsTrue (is_lawful_tree c.args.place tree)) _ _ _ c.loop-form.invariant.lawful pushed.2.lawful pushed.1;
    }

pub list_tree-returns-clause-ok : goal.list_tree-returns-clause-ok
list_tree-returns-clause-ok t c =
    all_written c.args.place c.args.forms.now c.front-item.result _ _ _ _ _ _ (list_cons _ _ c.in-len1-up.len_at_least c.front-item.is) c.in_ok-name.ensures.ok c.len.ensures
    record { spelled = map_whole without_spans written_tree _ _ _ c.loop-form-test.false c.loop-form.invariant.spelled; lawful = c.loop-form.invariant.lawful }
    (λ heads. c.applied.ensures c.args.place heads c.loop-form.invariant.lawful)

pub list_tree-slice_bounds-form-items-count : goal.list_tree-slice_bounds-form-items-count
list_tree-slice_bounds-form-items-count t c = rw c.len.ensures c.in_ok-name.ensures.ok.within

pub list_tree-returns-then-is_word-2-clause-ok : goal.list_tree-returns-then-is_word-2-clause-ok
list_tree-returns-then-is_word-2-clause-ok t c =
    subst (λ (fs : List Form). IfOk c.map_tree.result (WritesTree c.args.place (plain_list fs))) (behind_front _ _ _ c.in-len1-up.len_at_least c.front-item.is (c.is_word-2.ensures.0 c.if-is_word-2.true)) c.map_tree.ensures.ok

pub list_tree-returns-then-is_word-2-clause-refused : goal.list_tree-returns-then-is_word-2-clause-refused
list_tree-returns-then-is_word-2-clause-refused t c =
    λ e tree w. c.map_tree.ensures.refused e tree (subst (λ (fs : List Form). WritesTree c.args.place (plain_list fs) tree) (sym (behind_front _ _ _ c.in-len1-up.len_at_least c.front-item.is (c.is_word-2.ensures.0 c.if-is_word-2.true))) w)
