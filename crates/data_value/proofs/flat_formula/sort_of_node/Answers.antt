use Rattle.std.proofs.Common.{sym, ap, ◌∙◌}
use Rattle.data_value.specs.declared.DataSort.TheVariants.{Bool as BoolSort}
use Rattle.data_value.specs.Flat.{node_sort}
use Rattle.data_value.proofs.FlatLemmas.{apply_sort, apply_no_sort}
use Rattle.data_value.proofs.flat_formula.sort_of_node.Goals as goal

pub returns-in_ok-args-in-Apply : goal.returns-in_ok-args-in-Apply
returns-in_ok-args-in-Apply c =
    apply_sort c.args.widths.now c.args.sorts.now c.as_slice.result.now c.in-Apply.op c.in-Apply.places c.as_slice-places.result.now c.sort_of.result
    (sym c.as_slice-places.ensures) (sym c.are_below.ensures ∙ c.if-are_below.true) (c.as_slice.ensures ∙ c.in_ok-args-in-Apply.ensures BoolSort) c.sort_of.ensures
    ∙ ap (node_sort c.args.widths.now c.args.sorts.now) (sym c.in-Apply.is)

pub returns-else-are_below : goal.returns-else-are_below
returns-else-are_below c =
    apply_no_sort c.args.widths.now c.args.sorts.now c.in-Apply.op c.in-Apply.places c.as_slice-places.result.now
    (sym c.as_slice-places.ensures) (sym c.are_below.ensures ∙ c.if-are_below.false)
    ∙ ap (node_sort c.args.widths.now c.args.sorts.now) (sym c.in-Apply.is)
