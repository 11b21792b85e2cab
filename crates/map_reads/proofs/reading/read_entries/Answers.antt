use Rattle.std.proofs.Common.{◌≡◌, ◌<◌, ◌-◌, Some, length, get_or, slice_get, arith, sym, ap, ◌∙◌, subst}
use Rattle.std.proofs.lemmas.Nat.{pow_pos}
use Rattle.std.proofs.lemmas.Option.{get_or_from_slice_get}
use Rattle.data_value.specs.declared.DataSort.TheVariants.{Bits as BitsSort}
use Rattle.data_value.specs.Sorts.{IsWidth}
use Rattle.data_value.specs.Maps.{FitsEntry}
use Rattle.map_reads.proofs.Drafting.{sort_later}
use Rattle.map_reads.proofs.AtKeys.{entries_none, entries_more, entries_all}
use Rattle.map_reads.proofs.reading.read_entries.Goals as goal

pub loop-done-init : goal.loop-done-init
loop-done-init c draft mapping keys words key_sort =
    let width : IsWidth c.args.widths.1 = subst IsWidth (sym words) mapping.word_width in
    entries_none c.args.draft.now c.fix.new.draft c.in_ok-found.found c.args.key c.args.widths.0 c.args.widths.1 c.args.map.now.entries (c.in_ok-found.ensures draft width (pow_pos c.args.widths.1))

pub loop-done-preserved : goal.loop-done-preserved
loop-done-preserved c draft mapping keys words key_sort =
    let es = c.args.map.now.entries in
    let o = c.args.draft.now in
    let k = c.args.widths.0 in
    let w = c.args.widths.1 in
    let i = c.loop-done.done in
    let e = c.entry-entry.result in
    let before = c.loop-done.invariant draft mapping keys words key_sort in
    let count : c.len-count.result ≡ length es = c.len-count.ensures in
    let lt : i < length es = let t = c.loop-done-test.true in omega arith in
    let at : slice_get es (length es - 1 - i) ≡ Some e = ap (λ n. slice_get es (n - 1 - i)) (sym count) ∙ c.entry-entry.ensures in
    let here : get_or es (length es - 1 - i) e ≡ e = get_or_from_slice_get es (length es - 1 - i) e e at in
    let fits : FitsEntry c.args.map.now.key_width c.args.map.now.word_width e = subst (FitsEntry c.args.map.now.key_width c.args.map.now.word_width) here (mapping.fits (length es - 1 - i) e (omega arith)) in
    let fits_here : FitsEntry k w e = subst (λ a. FitsEntry a w e) (sym keys) (subst (λ b. FitsEntry c.args.map.now.key_width b e) (sym words) fits) in
    entries_more o c.loop-done.draft c.over_entry.new.draft c.loop-done.found c.in_ok-found-2.found c.args.key k w i es e draft key_sort lt at before
    (c.in_ok-found-2.ensures before.draft (subst IsWidth (sym keys) mapping.key_width) (subst IsWidth (sym words) mapping.word_width) fits_here (sort_later o c.loop-done.draft draft before.grows c.args.key (BitsSort k) key_sort) before.sort)

pub returns : goal.returns
returns c draft mapping keys words key_sort =
    let all : c.loop-done.done ≡ length c.args.map.now.entries = let t = c.loop-done-test.false in let e = c.loop-done.auto.done-end in let n = c.len-count.ensures in omega arith in
    entries_all c.args.draft.now c.loop-done.draft c.loop-done.found c.args.key c.args.widths.0 c.args.widths.1 c.loop-done.done c.args.map.now.entries all (c.loop-done.invariant draft mapping keys words key_sort)
