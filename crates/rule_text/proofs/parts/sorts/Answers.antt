use Rattle.std.proofs.Common.{rules, sym, ◌∙◌}
use Rattle.sexp_text.specs.Printed.{without_spans}
use Rattle.rule_text.specs.Written.{written_sort}
use Rattle.rule_text.specs.Lawful.{IsSort}
use Rattle.rule_text.proofs.Plain.{same_list}
use Rattle.rule_text.proofs.Lists.{map_pushed, All_pushed, value_at}
use Rattle.rule_text.proofs.parts.sorts.Goals as goal

pub loop-form-preserved : goal.loop-form-preserved
loop-form-preserved c = record {
  spelled = map_pushed without_spans written_sort _ _ _ _ _ _ c.loop-form-test.true c.form-item.is c.loop-form.invariant.spelled c.in_ok-sort.ensures.ok.spelled c.in_ok-push.ensures.ok;
  lawful = All_pushed IsSort _ _ _ c.loop-form.invariant.lawful c.in_ok-sort.ensures.ok.lawful c.in_ok-push.ensures.ok;
}

pub returns-in_err-sort-clause-refused : goal.returns-in_err-sort-clause-refused
returns-in_err-sort-clause-refused c = λ u sorts w. let here = value_at without_spans written_sort IsSort _ sorts _ _ (same_list _ _ (sym c.in-Some.ensures.list ∙ w.spelled)) w.lawful c.loop-form-test.true c.form-item.is in c.in_err-sort.ensures.refused (search rules) here.0 record { spelled = here.1; lawful = here.2 }
