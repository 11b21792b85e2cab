use Rattle.std.proofs.Common.{rules, sym, ◌∙◌}
use Rattle.sexp_text.specs.Printed.{without_spans}
use Rattle.rule_text.specs.Written.{written_var}
use Rattle.rule_text.specs.Lawful.{IsSort}
use Rattle.rule_text.proofs.Plain.{same_list}
use Rattle.rule_text.proofs.Slices.{behind_word}
use Rattle.rule_text.proofs.Lists.{map_pushed, All_pushed, value_at}
use Rattle.rule_text.proofs.parts.vars.Goals as goal

pub loop-pair-preserved : goal.loop-pair-preserved
loop-pair-preserved c = record {
  spelled = map_pushed without_spans written_var _ _ _ _ _ _ c.loop-pair-test.true c.pair-item.is c.loop-pair.invariant.spelled c.in_ok-var.ensures.ok.spelled c.in_ok-push.ensures.ok;
  lawful = All_pushed (λ x. IsSort x.sort) _ _ _ c.loop-pair.invariant.lawful c.in_ok-var.ensures.ok.lawful c.in_ok-push.ensures.ok;
}

pub returns-in_err-var-clause-refused : goal.returns-in_err-var-clause-refused
returns-in_err-var-clause-refused c = λ u vars w. let here = value_at without_spans written_var (λ x. IsSort x.sort) _ vars _ _ (behind_word _ _ _ (same_list _ _ (sym c.in-Some.ensures.some ∙ w.spelled))) w.lawful c.loop-pair-test.true c.pair-item.is in c.in_err-var.ensures.refused (search rules) here.0 record { spelled = here.1; lawful = here.2 }
