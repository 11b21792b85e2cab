use Rattle.bit_gates.proofs.RangeLemmas.{clause_below_more}
use Rattle.value_examples.proofs.gates.fresh_words.Goals as goal

-- the variables of the first word are still there behind those of the second
pub returns-in-Ok-clause-first : goal.returns-in-Ok-clause-first
returns-in-Ok-clause-first c = clause_below_more _ _ _ c.in-Ok.ensures.grows c.in_ok-first.ensures.in_range
