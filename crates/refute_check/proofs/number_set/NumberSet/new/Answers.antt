use Rattle.refute_check.proofs.SetLemmas.{none_stamped}
use Rattle.refute_check.proofs.number_set.NumberSet.new.Goals as goal

pub returns : goal.returns
returns c = none_stamped _ c.new.ensures.items
