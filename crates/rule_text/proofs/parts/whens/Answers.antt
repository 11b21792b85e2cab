use Rattle.std.proofs.Common.{rules}
use Rattle.sexp_text.specs.Printed.{without_spans}
use Rattle.rule_text.specs.Written.{written_when}
use Rattle.rule_text.specs.Lawful.{IsExpression}
use Rattle.rule_text.proofs.Lists.{map_pushed, All_pushed, value_at}
use Rattle.rule_text.proofs.parts.whens.Goals as goal

pub loop-form-preserved : goal.loop-form-preserved
loop-form-preserved c = record {
  spelled = map_pushed without_spans written_when _ _ _ _ _ _ c.loop-form-test.true c.form-item.is c.loop-form.invariant.spelled c.in_ok-when.ensures.ok.spelled c.in_ok-push.ensures.ok;
  lawful = All_pushed IsExpression _ _ _ c.loop-form.invariant.lawful c.in_ok-when.ensures.ok.lawful c.in_ok-push.ensures.ok;
}

pub returns-in_err-when-clause-refused : goal.returns-in_err-when-clause-refused
returns-in_err-when-clause-refused c = λ u whens w. let here = value_at without_spans written_when IsExpression _ whens _ _ w.spelled w.lawful c.loop-form-test.true c.form-item.is in c.in_err-when.ensures.refused (search rules) here.0 record { spelled = here.1; lawful = here.2 }
