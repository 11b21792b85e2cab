use Rattle.std.proofs.Common.{◌≡◌, ◌<◌, ◌^◌, List, All, map, Some, slice_get, get_or, ap, ◌∙◌, sym, subst, rules}
use Rattle.std.proofs.lemmas.Option.{slice_get-get_or}
use Rattle.data_value.specs.declared.DataSort.TheVariants.{Map as MapSort}
use Rattle.data_value.specs.Values.{scalar_sort, IsScalar}
use Rattle.data_value.specs.Flat.{flat_sorts}
use Rattle.data_value.proofs.FlatLemmas.{kept_all}
use Rattle.map_reads.specs.declared.read.Read.{Read}
use Rattle.map_reads.proofs.AtKeys.{sort_of_variable}
use Rattle.map_reads.proofs.Lifts.{key_fits, read_within, word_fits}
use Rattle.map_reads.proofs.lifting.map_of_reads.Goals as goal

pub zeros-made-requires-clause-key_width : goal.zeros-made-requires-clause-key_width
zeros-made-requires-clause-key_width c = (sort_of_variable c.args.reads.now.sorts c.args.variable (MapSort c.args.keys c.args.width) c.args.reads.now.fits.sorts_fit c.requires.sort).0

pub zeros-made-requires-clause-word_width : goal.zeros-made-requires-clause-word_width
zeros-made-requires-clause-word_width c = (sort_of_variable c.args.reads.now.sorts c.args.variable (MapSort c.args.keys c.args.width) c.args.reads.now.fits.sorts_fit c.requires.sort).1

pub bounds-words-read : goal.bounds-words-read
bounds-words-read c =
    let reads = c.args.reads.now in
    let i = c.loop-read.read-index in
    let none : Read = record { variable = 0; key = 0; word = 0 } in
    let all = c.as_slice-read-items.result.now in
    let at : slice_get reads.reads i ≡ Some (get_or all i none) = ap (λ (rs : List Read). slice_get rs i) (sym c.as_slice-read-items.ensures) ∙ slice_get-get_or all i none c.loop-read-test.true in
    read_within reads.sorts reads.scalars reads.flat.widths reads.flat.nodes reads.reads c.args.words.now reads.fits c.requires.words c.args.variable c.args.keys c.args.width i (get_or all i none) at c.if-read-variable.true c.requires.sort

pub offset_bounds-words-read : goal.offset_bounds-words-read
offset_bounds-words-read c =
    let reads = c.args.reads.now in
    let i = c.loop-read.read-index in
    let none : Read = record { variable = 0; key = 0; word = 0 } in
    let all = c.as_slice-read-items.result.now in
    let at : slice_get reads.reads i ≡ Some (get_or all i none) = ap (λ (rs : List Read). slice_get rs i) (sym c.as_slice-read-items.ensures) ∙ slice_get-get_or all i none c.loop-read-test.true in
    let l = read_within reads.sorts reads.scalars reads.flat.widths reads.flat.nodes reads.reads c.args.words.now reads.fits c.requires.words c.args.variable c.args.keys c.args.width i (get_or all i none) at c.if-read-variable.true c.requires.sort in
    search rules

pub put-requires-clause-key : goal.put-requires-clause-key
put-requires-clause-key c =
    let reads = c.args.reads.now in
    let i = c.loop-read.read-index in
    let none : Read = record { variable = 0; key = 0; word = 0 } in
    let all = c.as_slice-read-items.result.now in
    let at : slice_get reads.reads i ≡ Some (get_or all i none) = ap (λ (rs : List Read). slice_get rs i) (sym c.as_slice-read-items.ensures) ∙ slice_get-get_or all i none c.loop-read-test.true in
    let kept = kept_all reads.flat.widths c.args.words.now reads.flat.nodes reads.flat.fits.widths_fit reads.flat.fits.nodes_fit c.requires.words in
    let scalars : All IsScalar c.args.values.now = subst (All IsScalar) (sym c.requires.values) kept.0 in
    let sorts : map scalar_sort c.args.values.now ≡ flat_sorts reads.flat.widths reads.flat.nodes = ap (map scalar_sort) c.requires.values ∙ kept.1 in
    let fits = key_fits reads.sorts reads.scalars reads.flat.widths reads.flat.nodes reads.reads c.args.words.now reads.fits c.requires.words c.args.variable c.args.keys c.args.width i (get_or all i none) at c.if-read-variable.true c.requires.sort c.args.values.now scalars sorts in
    subst (λ n. c.word_at.result < 2 ^ n) (sym c.loop-read.invariant.keys) (subst (λ m. m < 2 ^ c.args.keys) (sym c.word_at.ensures) fits)

pub put-requires-clause-word : goal.put-requires-clause-word
put-requires-clause-word c =
    let reads = c.args.reads.now in
    let i = c.loop-read.read-index in
    let none : Read = record { variable = 0; key = 0; word = 0 } in
    let all = c.as_slice-read-items.result.now in
    let at : slice_get reads.reads i ≡ Some (get_or all i none) = ap (λ (rs : List Read). slice_get rs i) (sym c.as_slice-read-items.ensures) ∙ slice_get-get_or all i none c.loop-read-test.true in
    let fits = word_fits reads.sorts reads.scalars reads.flat.widths reads.flat.nodes reads.reads c.args.words.now reads.fits c.requires.words c.args.variable c.args.keys c.args.width i (get_or all i none) at c.if-read-variable.true c.requires.sort in
    subst (λ n. get_or c.args.words.now (get_or all i none).word 0 < 2 ^ n) (sym c.loop-read.invariant.words) fits
