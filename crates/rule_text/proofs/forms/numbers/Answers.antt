use Rattle.std.proofs.Common.{refl}
use Rattle.sexp_text.specs.Printed.{without_spans}
use Rattle.rule_text.specs.Plain.{plain_number}
use Rattle.rule_text.proofs.Lists.{value_at}
use Rattle.rule_text.proofs.forms.numbers.Goals as goal

pub returns-in_default-clause-refused : goal.returns-in_default-clause-refused
returns-in_default-clause-refused c = λ _ numbers e. let here = value_at without_spans plain_number (λ _. Unit {0}) _ numbers _ _ e (λ k d within. tt) c.loop-form-test.true c.form-item.is in c.in_default.ensures.other refl here.0 here.1
