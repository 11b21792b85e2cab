use Rattle.bv_blast.proofs.CircuitLemmas.{is_circuit}
use Rattle.bv_blast.proofs.walk.blast.Goals as goal

pub returns : goal.returns
returns c =
    is_circuit c.in_ok-b.b c.fresh_inputs.new.b c.blast_nodes.new.b c.args.flat.now _ c.as_slice.result.now c.as_slice-2.result.now c.as_slice-3.result.now c.in_ok-places.places c.as_slice-4.result.now c.flag_at-root.result
    c.as_slice.ensures c.as_slice-2.ensures c.as_slice-3.ensures c.as_slice-4.ensures c.in_ok-b.ensures.clauses c.in_ok-inputs.ensures c.in_ok-places.ensures.extends c.in_ok-places.ensures.made c.flag_at-root.ensures c.in_ok-demand.ensures.added
