use Rattle.std.proofs.Common.{All, map}
use Rattle.data_value.specs.Ground.{ground_seen}
use Rattle.data_value.specs.Truth.{IsCondition}
use Rattle.value_examples.proofs.conditions.nodes.Given as goal

abbrev pub invariant-loop-truth : goal.invariant-loop-truth
invariant-loop-truth l = All IsCondition (map ground_seen l.nodes.items)
