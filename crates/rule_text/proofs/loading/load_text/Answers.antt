use Rattle.std.proofs.Common.{rules, sym, ◌∙◌, subst}
use Rattle.rule_text.specs.Faults.{AreTaken, IsFaultyAt}
use Rattle.rule_text.proofs.Loadings.{unread_text, faulty_text, lacking_text}
use Rattle.rule_text.proofs.loading.load_text.Goals as goal

pub returns-in_err-forms-clause-fault : goal.returns-in_err-forms-clause-fault
returns-in_err-forms-clause-fault g c = let refused = unread_text g.D.Draft.loading c.args.start c.args.bytes.now _ c.in_err-forms.ensures.fault in search rules

pub returns-in_err-draft-clause-fault : goal.returns-in_err-draft-clause-fault
returns-in_err-draft-clause-fault g c =
    let all = g.D.Draft.loading in
    let start = c.args.start in
    let faulty = subst (λ forms. IsFaultyAt all start forms c.in_err-draft.field-0.0) c.as_slice.ensures c.in_err-draft.ensures.fault in
    let refused = faulty_text all start c.args.bytes.now c.in_ok-forms.forms _ c.in_ok-forms.ensures.forms faulty in search rules

pub returns-in-Some-clause-fault : goal.returns-in-Some-clause-fault
returns-in-Some-clause-fault g c =
    let all = g.D.Draft.loading in
    let start = c.args.start in
    let draft = c.in_ok-draft.draft in
    let taken = subst (λ forms. AreTaken all start forms draft) c.as_slice.ensures c.in_ok-draft.ensures.ok in
    lacking_text all start c.args.bytes.now c.in_ok-forms.forms draft c.in-Some.fault c.in_ok-forms.ensures.forms taken (sym c.lacking.ensures ∙ c.in-Some.is)
