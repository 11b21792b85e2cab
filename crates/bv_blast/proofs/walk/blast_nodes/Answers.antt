use Rattle.std.proofs.Common.{◌≡◌, ℕ, List, IsSome, arith, take, map, get_or, sym, ap, ◌∙◌, subst}
use Rattle.std.proofs.lemmas.List.{get_or_read, take_all}
use Rattle.std.proofs.lemmas.List.Elements.{All-weaker, All-same}
use Rattle.std.proofs.lemmas.Option.{slice_get-get_or}
use Rattle.data_value.specs.declared.DataSort.{DataSort}
use Rattle.data_value.specs.declared.flat_formula.FlatNode.{FlatNode}
use Rattle.data_value.specs.declared.flat_formula.FlatNode.TheVariants.{Input}
use Rattle.data_value.specs.Sorts.{IsSort}
use Rattle.data_value.specs.Flat.{node_sort, flat_sorts}
use Rattle.data_value.proofs.FlatLemmas.{sorts_fit}
use Rattle.bit_gates.proofs.ExtendLemmas.{extends_refl, extends_trans}
use Rattle.bv_blast.specs.Inputs.{IsBits, widths_of}
use Rattle.bv_blast.specs.Places.{place_sort, HasPlace, HaveNodeValues}
use Rattle.bv_blast.proofs.FreeLemmas.{bits_more}
use Rattle.bv_blast.proofs.PlaceLemmas.{nodes_none, nodes_more, widths_fit}
use Rattle.bv_blast.proofs.walk.blast_nodes.Goals as goal

pub loop-node-init : goal.loop-node-init
loop-node-init c = record {
  extends = extends_refl _ _;
  so_far = nodes_none c.args.b.now c.args.inputs.now c.new-places.result c.new-places.ensures;
}

pub blast_node-requires : goal.blast_node-requires
blast_node-requires c =
    let inputs : List (List ℕ) = c.args.inputs.now in
    let widths : List ℕ = widths_of inputs in
    let sorts : map place_sort c.as_slice.result.now ≡ flat_sorts widths (take c.loop-node.node-index c.args.nodes.now) = ap (map place_sort) c.as_slice.ensures ∙ c.loop-node.invariant.so_far.sorts in
    let here : get_or c.args.nodes.now c.loop-node.node-index (Input 0) ≡ c.node-item.result = sym (get_or_read c.args.nodes.now c.loop-node.node-index c.node-item.result c.loop-node-test.true c.node-item.is (Input 0)) in
    let grows = c.loop-node.invariant.extends.grows in
    record {
      inputs = All-weaker (IsBits c.args.b.now.clauses.vars) (IsBits c.loop-node.b.clauses.vars) (bits_more _ _ grows) inputs c.requires.inputs;
      places = All-same (HasPlace c.loop-node.b) c.as_slice.result.now c.loop-node.places c.as_slice.ensures c.loop-node.invariant.so_far.in_range;
      sorts = All-same IsSort (map place_sort c.as_slice.result.now) _ sorts (sorts_fit widths c.args.nodes.now (widths_fit _ inputs c.requires.inputs) c.loop-node.node-index (omega arith));
      lawful = subst (λ (ss : List DataSort). IsSome (node_sort widths ss c.node-item.result)) (sym sorts)
          (subst (λ (n : FlatNode). IsSome (node_sort widths (flat_sorts widths (take c.loop-node.node-index c.args.nodes.now)) n)) here
          (c.requires.lawful c.loop-node.node-index _ (slice_get-get_or c.args.nodes.now c.loop-node.node-index (Input 0) c.loop-node-test.true)));
    }

pub loop-node-preserved : goal.loop-node-preserved
loop-node-preserved c = record {
  extends = extends_trans c.loop-node.invariant.extends c.in_ok-place.ensures.extends;
  so_far = nodes_more c.loop-node.b c.blast_node.new.b c.args.inputs.now c.args.nodes.now c.loop-node.places c.as_slice.result.now c.push.new.self c.node-item.result c.in_ok-place.place c.loop-node.node-index (Input 0)
      c.loop-node-test.true c.loop-node.invariant.so_far c.in_ok-place.ensures.extends
      (get_or_read c.args.nodes.now c.loop-node.node-index c.node-item.result c.loop-node-test.true c.node-item.is (Input 0)) c.as_slice.ensures c.in_ok-place.ensures.made c.in_ok-push.ensures.ok;
}

pub returns : goal.returns
returns c = record {
  extends = c.loop-node.invariant.extends;
  made = subst (λ (ns : List FlatNode). HaveNodeValues c.loop-node.b c.args.inputs.now ns c.loop-node.places) (take_all c.loop-node.node-index c.args.nodes.now c.loop-node-test.false) c.loop-node.invariant.so_far;
}
