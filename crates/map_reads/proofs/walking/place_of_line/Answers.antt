use Rattle.std.proofs.Common.{◌≡◌, length, slice_get, Some, refl, sym, ap, ◌∙◌}
use Rattle.std.proofs.lemmas.Option.{slice_get_read}
use Rattle.std.proofs.lemmas.Result.{IfOk-weaker}
use Rattle.node_list.specs.declared.line.Made.TheVariants as made
use Rattle.map_reads.proofs.Applying.{is_apply, next_leaf}
use Rattle.map_reads.proofs.walking.place_of_line.Goals as goal

pub apply-requires-clause-apply : goal.apply-requires-clause-apply
apply-requires-clause-apply g c =
    let lines = c.args.lines.now in
    let k = length c.args.places.now in
    let line = c.index-lines-places.result in
    let at : slice_get lines k ≡ Some line = slice_get_read lines (length lines) k line refl c.requires.next c.index-lines-places.is in
    is_apply (g.D.Domain.look c.args.d.now) lines k line c.in-Apply.op c.as_slice.result.now c.requires.lines at (c.in-Apply.is ∙ ap (made.Apply c.in-Apply.op) (sym c.as_slice.ensures))

pub returns-in-Leaf : goal.returns-in-Leaf
returns-in-Leaf g c =
    let lines = c.args.lines.now in
    let k = length c.args.places.now in
    let line = c.index-lines-places.result in
    let at : slice_get lines k ≡ Some line = slice_get_read lines (length lines) k line refl c.requires.next c.index-lines-places.is in
    IfOk-weaker c.leaf.result _ _ (λ place is. next_leaf (g.D.Domain.look c.args.d.now) c.args.draft.now c.leaf.new.draft lines k line place c.requires.lines at c.in-Leaf.is is) c.leaf.ensures
