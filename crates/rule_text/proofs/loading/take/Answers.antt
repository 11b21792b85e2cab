use Rattle.std.proofs.Common.{rules}
use Rattle.rule_text.proofs.Loadings.{form_taken_if, shape_refused, item_refused_if}
use Rattle.rule_text.proofs.loading.take.Goals as goal

pub returns-in_err-item-clause-fault : goal.returns-in_err-item-clause-fault
returns-in_err-item-clause-fault g c = let refused = shape_refused g.D.Draft.loading _ c.args.draft _ _ c.requires.kind c.in_err-item.ensures.fault in search rules

pub returns-clause-ok : goal.returns-clause-ok
returns-clause-ok g c = form_taken_if g.D.Draft.loading _ c.args.draft _ _ c.add-taken.result c.requires.kind c.in_ok-item.ensures.ok c.add-taken.ensures.ok

pub returns-clause-fault : goal.returns-clause-fault
returns-clause-fault g c = item_refused_if g.D.Draft.loading _ c.args.draft _ _ c.add-taken.result c.requires.kind c.in_ok-item.ensures.ok c.add-taken.ensures.fault
