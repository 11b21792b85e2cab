use Rattle.map_reads.proofs.Drafting.{value_fixed}
use Rattle.std.proofs.Common.{◌≡◌, Some, sym, ap, ◌∙◌, slice_get}
use Rattle.data_value.specs.declared.flat_formula.FlatNode.TheVariants.{Fixed}
use Rattle.map_reads.proofs.draft.Draft.fixed.Goals as goal

pub returns-in-Some-Fixed : goal.returns-in-Some-Fixed
returns-in-Some-Fixed c =
    let h = c.in-Some-Fixed in
    let at : slice_get c.args.self.now.nodes c.args.place ≡ Some (Fixed h.scalar) = sym h.ensures.value ∙ ap Some h.field-0-is in
    value_fixed c.args.self.now c.args.place h.scalar at
