use Rattle.std.proofs.Common.{◌≡◌, All, take, map}
use Rattle.data_value.specs.Values.{scalar_sort, IsScalar}
use Rattle.data_value.specs.Flat.{flat_sorts, flat_values}
use Rattle.data_value.proofs.flat_formula.flat_values.Given as goal

abbrev pub invariant-loop-node : goal.invariant-loop-node
invariant-loop-node l = record {
  values : l.values ≡ flat_values l.flat.widths l.words (take l.node-index l.node-items);
  scalars : All IsScalar l.values;
  sorts : map scalar_sort l.values ≡ flat_sorts l.flat.widths (take l.node-index l.node-items);
}
