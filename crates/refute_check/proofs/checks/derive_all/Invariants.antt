use Rattle.std.proofs.Common.{◌≡◌, ◌+◌, take, length}
use Rattle.refute_check.specs.Derived.{base_of}
use Rattle.refute_check.proofs.checks.derive_all.Given as goal

abbrev pub invariant-loop-step : goal.invariant-loop-step
invariant-loop-step l = record {
  base : base_of l.derivation ≡ base_of l.fn.derivation;
  count : length l.derivation.clauses ≡ length l.fn.derivation.clauses + l.step-index;
  steps : l.derivation.steps ≡ take l.step-index l.steps;
}
