use Rattle.prover.proofs.Clears.{IsClearing}
use Rattle.prover.proofs.clearing.cleared.Given as goal

abbrev pub invariant-loop-index : goal.invariant-loop-index
invariant-loop-index l = IsClearing l.sorts l.used l.valuation l.cleared l.index
