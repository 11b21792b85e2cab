use Rattle.sexp_text.proofs.Written.{written}
use Rattle.sexp_text.proofs.printer.+writing.Goals as goal

pub write_forms-loop-form-preserved : goal.write_forms-loop-form-preserved
write_forms-loop-form-preserved t c = written _ c.loop-form.form-index c.form-item.result _ _ _ _ c.loop-form-test.true c.form-item.is c.loop-form.invariant c.in_ok-push.ensures.items c.in_ok-write_form-2.ensures
