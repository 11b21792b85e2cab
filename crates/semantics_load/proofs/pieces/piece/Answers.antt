use Rattle.std.proofs.Common.{◌≡◌, IfOk, sym, ap, ◌∙◌, subst}
use Rattle.rule_text.specs.declared.item.Item.TheVariants.{Rule}
use Rattle.semantics_load.specs.Pieces.{piece_of}
use Rattle.semantics_load.proofs.pieces.piece.Goals as goal

pub returns-in-Rule : goal.returns-in-Rule
returns-in-Rule c =
    subst (λ i. IfOk c.rule_piece.result (λ p. p ≡ piece_of c.args.draft.now i))
    (sym (c.in-Rule.is ∙ ap (λ vars. Rule c.in-Rule.name vars c.in-Rule.head c.in-Rule.demands c.in-Rule.outcome) (sym c.as_slice-in-Rule.ensures) ∙ ap (λ demands. Rule c.in-Rule.name c.as_slice-in-Rule.result.now c.in-Rule.head demands c.in-Rule.outcome) (sym c.as_slice-in-Rule-2.ensures)))
    c.rule_piece.ensures
