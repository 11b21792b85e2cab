use Rattle.std.proofs.Common.{ap, ◌∙◌}
use Rattle.sort_term.specs.Names.{is_reserved_word}
use Rattle.rule_text.proofs.forms.is_reserved.Goals as goal

pub returns : goal.returns
returns c = c.is_reserved.ensures ∙ ap is_reserved_word c.as_slice.ensures.bytes
