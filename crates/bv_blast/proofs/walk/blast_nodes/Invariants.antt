use Rattle.std.proofs.Common.{take}
use Rattle.bit_gates.specs.Grows.{Grows}
use Rattle.bv_blast.specs.Places.{HaveNodeValues}
use Rattle.bv_blast.proofs.walk.blast_nodes.Given as goal

abbrev pub invariant-loop-node : goal.invariant-loop-node
invariant-loop-node l = record {
  extends : Grows l.fn.b l.b;
  so_far : HaveNodeValues l.b l.inputs (take l.node-index l.nodes) l.places;
}
