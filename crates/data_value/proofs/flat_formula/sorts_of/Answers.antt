use Rattle.std.proofs.Common.{◌≡◌, arith, get_or, ap, ◌∙◌, Some, None}
use Rattle.std.proofs.lemmas.List.{get_or_read, take_all}
use Rattle.std.proofs.lemmas.Option.{slice_get_within}
use Rattle.data_value.specs.declared.flat_formula.FlatNode.TheVariants.{Input}
use Rattle.data_value.specs.Flat.{node_sort, flat_sorts, in_turn}
use Rattle.data_value.proofs.FlatLemmas.{sorts_more, lawful_more, not_lawful}
use Rattle.data_value.proofs.flat_formula.sorts_of.Goals as goal

pub loop-node-init : goal.loop-node-init
unfolding in_turn
loop-node-init c = record { sorts = c.new-sorts.ensures; lawful = λ k n l. absurd (omega arith) }

pub returns-in-None : goal.returns-in-None
returns-in-None c =
    let here : c.node-item.result ≡ get_or c.args.nodes.now c.loop-node.node-index (Input 0) = get_or_read c.args.nodes.now c.loop-node.node-index c.node-item.result c.loop-node-test.true c.node-item.is (Input 0) in
    let sort : None ≡ node_sort c.args.widths.now c.loop-node.sorts (get_or c.args.nodes.now c.loop-node.node-index (Input 0)) = rw (c.as_slice.ensures, here, c.in-None.is) at c.in_ok-sort.ensures in
    not_lawful c.args.widths.now c.args.nodes.now c.loop-node.node-index (Input 0) c.loop-node.sorts c.loop-node-test.true c.loop-node.invariant.sorts sort

pub loop-node-preserved : goal.loop-node-preserved
loop-node-preserved c =
    let here : c.node-item.result ≡ get_or c.args.nodes.now c.loop-node.node-index (Input 0) = get_or_read c.args.nodes.now c.loop-node.node-index c.node-item.result c.loop-node-test.true c.node-item.is (Input 0) in
    let sort : Some c.in-Some.sort ≡ node_sort c.args.widths.now c.loop-node.sorts (get_or c.args.nodes.now c.loop-node.node-index (Input 0)) = rw (c.as_slice.ensures, here, c.in-Some.is) at c.in_ok-sort.ensures in
    record {
      sorts = sorts_more c.args.widths.now c.args.nodes.now c.loop-node.node-index (Input 0) c.loop-node.sorts c.push.new.self c.in-Some.sort c.loop-node-test.true c.loop-node.invariant.sorts sort c.in_ok-push-in-Some.ensures.ok;
      lawful = lawful_more c.args.widths.now c.args.nodes.now c.loop-node.node-index (Input 0) c.loop-node.sorts c.in-Some.sort c.loop-node-test.true c.loop-node.invariant.sorts sort c.loop-node.invariant.lawful;
    }

pub returns : goal.returns
returns c = (
  λ k n e. let l = slice_get_within c.args.nodes.now k n e in c.loop-node.invariant.lawful k n (omega arith) e,
  c.loop-node.invariant.sorts ∙ ap (flat_sorts c.args.widths.now) (take_all c.loop-node.node-index c.args.nodes.now c.loop-node-test.false),
)
