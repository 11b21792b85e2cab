use Rattle.std.proofs.Common.{refl, sym, subst}
use Rattle.rule_text.specs.Faults.{IsFaultyAt}
use Rattle.rule_text.proofs.Loadings.{next_taken, all_taken, refused_at}
use Rattle.rule_text.proofs.loading.take_forms.Goals as goal

pub returns-in-Err-clause-fault : goal.returns-in-Err-clause-fault
returns-in-Err-clause-fault g c =
    subst (IsFaultyAt g.D.Draft.loading c.args.start c.args.forms.now) (sym c.in_item.ensures)
    (refused_at g.D.Draft.loading c.args.start c.args.forms.now c.loop-k.k c.index-forms-k.result c.loop-k.draft c.in-Err.error c.loop-k-test.true c.index-forms-k.is c.loop-k.invariant c.in-Err.ensures.fault)

pub loop-k-preserved : goal.loop-k-preserved
loop-k-preserved g c =
    next_taken g.D.Draft.loading c.args.start c.args.forms.now c.loop-k.k c.index-forms-k.result c.loop-k.draft c.in-Ok.more c.loop-k-test.true c.index-forms-k.is c.loop-k.invariant c.in-Ok.ensures.ok

pub returns-clause-ok : goal.returns-clause-ok
returns-clause-ok g c = all_taken g.D.Draft.loading c.args.start c.args.forms.now c.loop-k.k c.loop-k.draft c.loop-k-test.false c.loop-k.invariant
