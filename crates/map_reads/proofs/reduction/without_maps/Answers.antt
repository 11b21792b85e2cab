use Rattle.std.proofs.Common.{All, [], ◌∷◌, ◌++◌, sym, ap, ◌∙◌, subst}
use Rattle.data_value.specs.Sorts.{IsSort}
use Rattle.map_reads.specs.Placing.{ArePlaced}
use Rattle.map_reads.proofs.Begun.{sorts_pass}
use Rattle.map_reads.proofs.Wording.{words_for}
use Rattle.map_reads.proofs.Reducing.{means_same, is_sound, first_placed}
use Rattle.map_reads.proofs.reduction.without_maps.Goals as goal

pub new-requires : goal.new-requires
new-requires g c = sorts_pass c.sorts.result.now (subst (All IsSort) (sym c.sorts.ensures) (g.met.D.Domain.laws c.args.d.now).sorts)

pub returns-clause-means : goal.returns-clause-means
returns-clause-means g c =
    let look = g.D.Domain.look c.args.d.now in
    let formula = look c.args.formula.now in
    let begun = c.in_ok-draft.draft in
    let drafted = c.places_of.new.draft in
    let nodes = c.as_slice.result.now in
    let roots = subst (ArePlaced look begun drafted nodes) (sym c.as_slice-2.ensures) c.in_ok-roots.ensures in
    let root = first_placed look begun drafted nodes c.as_slice-2.result.now c.in_ok-copy.field-0 formula (c.as_slice.ensures.value ∙ c.in_ok-push.ensures.items ∙ ap (λ ns. ns ++ c.in_ok-copy.field-0 ∷ []) c.new-formulas.ensures.items) c.in_ok-copy.ensures roots in
    means_same formula begun drafted c.demand.new.draft _ c.in_ok-demanded.demanded formula.sort c.finished.result root c.in_ok-demanded.ensures c.finished.ensures

pub returns-clause-sound : goal.returns-clause-sound
returns-clause-sound g c =
    let look = g.D.Domain.look c.args.d.now in
    let formula = look c.args.formula.now in
    let begun = c.in_ok-draft.draft in
    let drafted = c.places_of.new.draft in
    let nodes = c.as_slice.result.now in
    let roots = subst (ArePlaced look begun drafted nodes) (sym c.as_slice-2.ensures) c.in_ok-roots.ensures in
    let root = first_placed look begun drafted nodes c.as_slice-2.result.now c.in_ok-copy.field-0 formula (c.as_slice.ensures.value ∙ c.in_ok-push.ensures.items ∙ ap (λ ns. ns ++ c.in_ok-copy.field-0 ∷ []) c.new-formulas.ensures.items) c.in_ok-copy.ensures roots in
    is_sound formula begun drafted c.demand.new.draft _ c.in_ok-demanded.demanded formula.sort c.finished.result root c.in_ok-demanded.ensures c.finished.ensures

pub returns-clause-tied : goal.returns-clause-tied
returns-clause-tied g c = words_for c.finished.result
