use Rattle.refute_check.proofs.SetLemmas.{later, none_stamped}
use Rattle.refute_check.proofs.number_set.NumberSet.clear.Goals as goal

pub returns-then-self-lt4294967295 : goal.returns-then-self-lt4294967295
returns-then-self-lt4294967295 c = later (record { round = c.self.inside.round; stamps = c.self.inside.stamps.items }) c.self.invariant

pub returns-else-self-lt4294967295 : goal.returns-else-self-lt4294967295
returns-else-self-lt4294967295 c = none_stamped _ c.clear.ensures.items
