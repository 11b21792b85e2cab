use Rattle.std.proofs.Common.{sym, ◌∙◌}
use Rattle.rule_text.proofs.Plain.{same_list}
use Rattle.rule_text.proofs.tree.entry.Goals as goal

pub returns-clause-none : goal.returns-clause-none
returns-clause-none c = λ none pair e. c.number_pair.ensures.none none pair.0 pair.1 (same_list _ _ (sym c.in_ok-list.ensures.list ∙ e))
