-- The domain whose nodes are values.
use Rattle.std.specs.Prelude.{None}
use Rattle.data_value.specs.declared.Value.{Value}
use Rattle.data_value.specs.Values.{is_value, value_sort}
use Rattle.data_value.specs.Nodes.{Seen, Constant, known_scalar}

-- A value as a node: it means itself, whatever the valuation.
abbrev pub ground_seen : Value → Seen Value
ground_seen x = record {
  valid = is_value x;
  sort = value_sort x;
  known = known_scalar x;
  meaning = λ v. x;
  shown = Constant x;
  id = None;
  height = 0;
  size = 1;
}
