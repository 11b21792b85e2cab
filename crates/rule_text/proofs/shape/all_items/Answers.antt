use Rattle.std.proofs.Common.{sym, subst}
use Rattle.rule_text.specs.Shapes.{IsItemsError}
use Rattle.rule_text.proofs.Misfits.{one_more, misread}
use Rattle.rule_text.proofs.shape.all_items.Goals as goal

pub returns-in-Err-clause-fault : goal.returns-in-Err-clause-fault
returns-in-Err-clause-fault c =
    subst (IsItemsError c.args.kind c.args.forms.now) (sym c.in_item.ensures)
    (misread c.args.kind c.args.forms.now c.loop-k.k c.index-forms-k.result c.loop-k.items c.in-Err.error (λ is. absurd (c.requires.many is)) c.loop-k-test.true c.index-forms-k.is c.loop-k.invariant c.in-Err.ensures.fault)

pub loop-k-preserved : goal.loop-k-preserved
loop-k-preserved c = one_more c.args.kind c.args.forms.now c.loop-k.k c.index-forms-k.result c.loop-k.items _ c.in-Ok.item c.loop-k-test.true c.index-forms-k.is c.loop-k.invariant c.in-Ok.ensures.ok c.in_ok-push-in-Ok.ensures.ok
