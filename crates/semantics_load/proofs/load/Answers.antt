use Rattle.std.proofs.Common.{sym, subst}
use Rattle.rule_text.specs.Faults.{IsWholeText}
use Rattle.semantics_load.specs.Declaring.{nothing}
use Rattle.semantics_load.specs.Loads.{semantics_loading}
use Rattle.semantics_load.proofs.Drafts.{text_makes_draft, is_told}
use Rattle.semantics_load.proofs.load.Goals as goal

pub into_semantics-requires-clause-lawful : goal.into_semantics-requires-clause-lawful
into_semantics-requires-clause-lawful g c =
    let text = subst (λ start. IsWholeText semantics_loading start c.args.bytes.now c.in_ok-draft.draft) c.new-nothing.ensures c.in_ok-draft.ensures.ok in
    text_makes_draft c.args.bytes.now c.in_ok-draft.draft text.text

pub into_semantics-requires-clause-told : goal.into_semantics-requires-clause-told
into_semantics-requires-clause-told g c = is_told c.in_ok-draft.draft.config c.in_ok-draft.ensures.ok.whole

pub returns-clause-ok : goal.returns-clause-ok
returns-clause-ok g c =
    let text = subst (λ start. IsWholeText semantics_loading start c.args.bytes.now c.in_ok-draft.draft) c.new-nothing.ensures c.in_ok-draft.ensures.ok in
    record { whole = subst (IsWholeText semantics_loading nothing c.args.bytes.now) (sym c.into_semantics.ensures) text }
