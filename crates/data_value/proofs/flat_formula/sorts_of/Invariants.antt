use Rattle.std.proofs.Common.{◌≡◌, ℕ, ◌<◌, Some, IsSome, take, slice_get}
use Rattle.data_value.specs.declared.flat_formula.FlatNode.{FlatNode}
use Rattle.data_value.specs.Flat.{node_sort, flat_sorts}
use Rattle.data_value.proofs.flat_formula.sorts_of.Given as goal

abbrev pub invariant-loop-node : goal.invariant-loop-node
invariant-loop-node l = record {
  sorts : l.sorts ≡ flat_sorts l.widths (take l.node-index l.nodes);
  lawful : (k : ℕ) (n : FlatNode) → k < l.node-index → slice_get l.nodes k ≡ Some n → IsSome (node_sort l.widths (flat_sorts l.widths (take k l.nodes)) n);
}
