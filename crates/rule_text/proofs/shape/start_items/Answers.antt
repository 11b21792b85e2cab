use Rattle.std.proofs.Common.{rules, [], refl, sym, subst}
use Rattle.rule_text.specs.Shapes.{IsItemsError, missing}
use Rattle.rule_text.specs.declared.item.FileKind.TheVariants.{Start}
use Rattle.rule_text.proofs.Slices.{list_0}
use Rattle.rule_text.proofs.Misfits.{none_written, misread, second_form}
use Rattle.rule_text.proofs.shape.start_items.Goals as goal

pub returns-in_default-clause-fault : goal.returns-in_default-clause-fault
returns-in_default-clause-fault c = (0, refl, missing refl (list_0 _ c.in_default.len_below))

pub returns-in-Err-clause-fault : goal.returns-in-Err-clause-fault
returns-in-Err-clause-fault c =
    subst (IsItemsError Start c.args.forms.now) (sym c.in_item.ensures)
    (misread Start c.args.forms.now 0 c.form-item.result [] c.in-Err.error (λ _. refl) (search rules) c.form-item.is (none_written Start) c.in-Err.ensures.fault)

pub returns-then-not-is_empty-clause-fault : goal.returns-then-not-is_empty-clause-fault
returns-then-not-is_empty-clause-fault c =
    (1, refl, second_form c.args.forms.now c.form-item.result c.in-Ok.item c.in-len1-up.len_at_least c.form-item.is c.in-Ok.ensures.ok (search rules))
