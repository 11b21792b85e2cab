use Rattle.std.proofs.Common.{sym, ◌∙◌}
use Rattle.semantics_load.proofs.RuleParts.{no_front, no_end, rule_said_of}
use Rattle.semantics_load.proofs.pieces.rule_piece.Goals as goal

pub returns-in_default : goal.returns-in_default
returns-in_default c = no_front c.args.draft.now _ _ _ _ _ _ _ c.known-known.ensures c.requires.names (sym c.in_default.is ∙ c.in_ok-front.ensures)

pub returns-in-Ok-None : goal.returns-in-Ok-None
returns-in-Ok-None c = no_end c.args.draft.now _ _ _ _ _ _ _ c.known-known.ensures c.requires.names (sym c.in-Ok-None.field-0-is ∙ c.in-Ok-None.ensures)

pub returns-in_ok-rule-in-Ok-Some : goal.returns-in_ok-rule-in-Ok-Some
returns-in_ok-rule-in-Ok-Some c = rule_said_of c.args.draft.now _ _ _ _ _ _ _ c.known-known.ensures c.requires.names c.in-Some.front c.in-Ok-Some.end _ (sym c.in-Some.is ∙ c.in_ok-front.ensures) (sym c.in-Ok-Some.field-0-is ∙ c.in-Ok-Some.ensures) c.in_ok-rule-in-Ok-Some.ensures
