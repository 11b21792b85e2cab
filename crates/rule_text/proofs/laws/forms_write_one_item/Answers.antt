use Rattle.rule_text.proofs.UniqueItems.{one_item}
use Rattle.rule_text.proofs.laws.forms_write_one_item.Goals as goal

pub returns : goal.returns
returns c = one_item
