use Rattle.std.proofs.Common.{◌&&◌, ◌==◌, ℕ, bytes_eq, IsFalse, take}
use Rattle.std.specs.List.{list_any}
use Rattle.rule_text.proofs.operators.counts.Given as goal

-- no operator so far has the name
abbrev pub invariant-loop-i : goal.invariant-loop-i
invariant-loop-i l = (numbers arguments : ℕ) → IsFalse (list_any (λ op. bytes_eq op.0.now l.name && (op.1 == numbers && op.2 == arguments)) (take l.i l.operators))
