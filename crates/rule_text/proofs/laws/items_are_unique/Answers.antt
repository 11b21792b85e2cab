use Rattle.rule_text.proofs.UniqueItems.{same_items}
use Rattle.rule_text.proofs.laws.items_are_unique.Goals as goal

pub returns : goal.returns
returns c = same_items
