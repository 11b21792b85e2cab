use Rattle.std.proofs.Common.{take}
use Rattle.rule_text.specs.Writes.{AreWritten}
use Rattle.rule_text.proofs.shape.all_items.Given as goal

-- the items so far are what the forms so far write
abbrev pub invariant-loop-k : goal.invariant-loop-k
invariant-loop-k l = AreWritten l.kind (take l.k l.forms) l.items
