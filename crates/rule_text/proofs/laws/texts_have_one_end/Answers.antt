use Rattle.rule_text.proofs.OneEnd.{one_value, one_fault, no_value_and_fault}
use Rattle.rule_text.proofs.laws.texts_have_one_end.Goals as goal

pub returns-clause-value : goal.returns-clause-value
returns-clause-value g c = λ start bytes d e adds. one_value g.D.Draft.loading adds start bytes d e

pub returns-clause-fault : goal.returns-clause-fault
returns-clause-fault g c = λ start bytes f h adds. one_fault g.D.Draft.loading adds start bytes f h

pub returns-clause-apart : goal.returns-clause-apart
returns-clause-apart g c = λ start bytes d f adds. no_value_and_fault g.D.Draft.loading adds start bytes d f
