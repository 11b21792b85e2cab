use Rattle.std.proofs.Common.{false, ◌∙◌}
use Rattle.std.proofs.lemmas.List.Elements.{All-same}
use Rattle.data_value.specs.declared.Scalar.TheVariants.{Flag}
use Rattle.data_value.specs.Values.{IsScalar}
use Rattle.data_value.specs.Flat.{at_places}
use Rattle.data_value.proofs.FlatLemmas.{scalars_at, args_sorted}
use Rattle.data_value.proofs.flat_formula.value_of_node.Goals as goal

pub apply_scalar-requires-clause-sorted : goal.apply_scalar-requires-clause-sorted
apply_scalar-requires-clause-sorted c =
    args_sorted c.args.widths.now c.args.values.now c.in-Apply.op c.in-Apply.places c.as_slice.result.now c.as_slice-in-Apply.result.now
    (rw c.in-Apply.is at c.requires.sorted) c.as_slice.ensures (c.as_slice-in-Apply.ensures ∙ c.in_ok-args-in-Apply.ensures (Flag false))

pub apply_scalar-requires-clause-scalars : goal.apply_scalar-requires-clause-scalars
apply_scalar-requires-clause-scalars c =
    All-same IsScalar c.as_slice-in-Apply.result.now (at_places (Flag false) c.args.values.now c.as_slice.result.now)
    (c.as_slice-in-Apply.ensures ∙ c.in_ok-args-in-Apply.ensures (Flag false)) (scalars_at c.args.values.now c.as_slice.result.now c.requires.scalars)
