use Rattle.std.proofs.Common.{refl}
use Rattle.std.proofs.lemmas.Result.{IfOk-weaker}
use Rattle.data_value.specs.declared.DataSort.TheVariants.{Bits as BitsSort}
use Rattle.map_reads.proofs.Drafting.{sort_later, grows-both}
use Rattle.map_reads.proofs.AtKeys.{entry_value}
use Rattle.map_reads.proofs.reading.over_entry.Goals as goal

pub returns : goal.returns
returns c =
    let a = c.args.draft.now in
    let b = c.fix.new.draft in
    let d = c.fix-2.new.draft in
    let k = c.args.widths.0 in
    let w = c.args.widths.1 in
    let from = c.in_ok-from.from in
    let to = c.in_ok-to.to in
    IfOk-weaker c.over.result _ _
    (λ p is draft keys words fits key_sort below_sort.
    let first = c.in_ok-from.ensures draft keys fits.0 in
    let second = c.in_ok-to.ensures first.draft words fits.2 in
    let ad = grows-both a b d first.grows second.grows in
    entry_value a b d c.over.new.draft from to p c.args.key c.args.below k w c.args.entry.0 c.args.entry.1 draft key_sort below_sort first second
    (is (BitsSort w) (BitsSort k) second.draft refl refl (sort_later b d first.draft second.grows from (BitsSort k) first.sort) (sort_later a d draft ad c.args.key (BitsSort k) key_sort) second.sort
    (sort_later a d draft ad c.args.below (BitsSort w) below_sort)))
    c.over.ensures
