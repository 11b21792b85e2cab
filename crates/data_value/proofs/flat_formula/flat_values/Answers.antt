use Rattle.std.proofs.Common.{◌≡◌, List, [], get_or, map, sym, ap, subst}
use Rattle.std.proofs.lemmas.List.{get_or_read}
use Rattle.std.proofs.lemmas.List.Elements.{All-same, All-nil}
use Rattle.data_value.specs.declared.flat_formula.FlatNode.{FlatNode}
use Rattle.data_value.specs.declared.flat_formula.FlatNode.TheVariants.{Input}
use Rattle.data_value.specs.Values.{scalar_sort, IsScalar}
use Rattle.data_value.specs.Flat.{HaveSorts, node_value, in_turn}
use Rattle.data_value.proofs.FlatLemmas.{kept_more, values_more}
use Rattle.data_value.proofs.flat_formula.flat_values.Goals as goal

pub loop-node-init : goal.loop-node-init
unfolding in_turn
loop-node-init c = record {
  values = c.new-values.ensures;
  scalars = All-same IsScalar c.new-values.result [] c.new-values.ensures (All-nil IsScalar);
  sorts = ap (map scalar_sort) c.new-values.ensures;
}

pub loop-node-preserved : goal.loop-node-preserved
loop-node-preserved c =
    let nodes : List FlatNode = c.as_slice-node-items.result.now in
    let here : c.node-item.result ≡ get_or nodes c.loop-node.node-index (Input 0) = get_or_read nodes c.loop-node.node-index c.node-item.result c.loop-node-test.true c.node-item.is (Input 0) in
    let lawful : HaveSorts c.args.flat.now.widths nodes = subst (HaveSorts c.args.flat.now.widths) (sym c.as_slice-node-items.ensures) c.args.flat.now.fits.nodes_fit in
    let value : c.in_ok-value.value ≡ node_value c.args.flat.now.widths c.args.words.now c.loop-node.values (get_or nodes c.loop-node.node-index (Input 0)) =
    rw (c.as_slice-widths.ensures, c.as_slice.ensures, c.as_slice-in-loop-node.ensures, here) at c.in_ok-value.ensures in
    let kept = kept_more c.args.flat.now.widths c.args.words.now nodes c.loop-node.node-index (Input 0) c.loop-node.values c.push.new.self c.in_ok-value.value
    c.args.flat.now.fits.widths_fit lawful c.requires c.loop-node-test.true c.loop-node.invariant.scalars c.loop-node.invariant.sorts value c.in_ok-push.ensures.ok in
    record {
      values = values_more c.args.flat.now.widths c.args.words.now nodes c.loop-node.node-index (Input 0) c.loop-node.values c.push.new.self c.in_ok-value.value c.loop-node-test.true c.loop-node.invariant.values value c.in_ok-push.ensures.ok;
      scalars = kept.0;
      sorts = kept.1;
    }
