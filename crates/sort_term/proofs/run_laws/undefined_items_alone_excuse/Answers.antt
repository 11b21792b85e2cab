use Rattle.sort_term.proofs.VerdictLemmas.{misses_fails, fails_misses, never_refines_right}
use Rattle.sort_term.proofs.run_laws.undefined_items_alone_excuse.Goals as goal

pub returns : goal.returns
returns c = λ q none. (λ p. (misses_fails q p none, fails_misses q p), never_refines_right q none)
