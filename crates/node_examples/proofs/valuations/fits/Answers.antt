use Rattle.std.proofs.Common.{◌<◌, length, All, [], ◌∷◌, ◌++◌, List, take, get_or, refl, sym, ap, ap₂, ◌∙◌, subst, arith}
use Rattle.std.proofs.lemmas.List.{map_more, take_more}
use Rattle.std.proofs.lemmas.List.Elements.{All-push}
use Rattle.data_value.specs.declared.DataSort.{DataSort}
use Rattle.data_value.specs.Values.{IsValue, value_sort}
use Rattle.node_examples.proofs.valuations.fits.Goals as goal

pub loop-place-preserved : goal.loop-place-preserved
loop-place-preserved c =
    let i = c.loop-place.place in
    let xs = c.args.values.now in
    let x = c.index-values-place.result in
    let within : i < length xs = omega arith in
    let of = c.if-not-is_of.ensures refl in (
      subst (All IsValue) (sym (take_more xs i x within)) (All-push IsValue (take i xs) (get_or xs i x) c.loop-place.invariant.0 (subst IsValue c.index-values-place.is of.value)),
      map_more value_sort xs i x within
          ∙ ap₂ (λ (ss : List DataSort) (s : DataSort). ss ++ s ∷ []) c.loop-place.invariant.1 (ap value_sort (sym c.index-values-place.is) ∙ of.sort)
          ∙ sym (take_more c.args.sorts.now i _ c.loop-place-test.true),
    )
