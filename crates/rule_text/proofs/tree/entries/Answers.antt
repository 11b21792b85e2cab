use Rattle.std.proofs.Common.{refl}
use Rattle.sexp_text.specs.Printed.{without_spans}
use Rattle.rule_text.specs.Written.{written_pair}
use Rattle.rule_text.proofs.Lists.{value_at}
use Rattle.rule_text.proofs.tree.entries.Goals as goal

pub returns-in_default-clause-refused : goal.returns-in_default-clause-refused
returns-in_default-clause-refused c = λ _ pairs e. let here = value_at without_spans written_pair (λ _. Unit {0}) _ pairs _ _ e (λ k d within. tt) c.loop-form-test.true c.form-item.is in c.in_default.ensures.none refl here.0 here.1
