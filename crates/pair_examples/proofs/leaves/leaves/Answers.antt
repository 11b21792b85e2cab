use Rattle.std.proofs.Common.{All, [], ◌∷◌, sym, ap, ◌∙◌, subst}
use Rattle.std.proofs.lemmas.List.{map-append}
use Rattle.std.proofs.lemmas.List.Elements.{All-push}
use Rattle.path_condition.specs.Leaves.{IsLeaf, seen_leaf, seen_leaves}
use Rattle.pair_examples.proofs.leaves.leaves.Goals as goal

pub loop-form-preserved : goal.loop-form-preserved
loop-form-preserved g c =
    let look = g.D.Domain.look c.args.d.now in
    let IsHere = IsLeaf c.args.semantics.now in
    let so_far = c.loop-form.leaves in
    let next = c.in_ok-leaf.field-0 in
    let more = ap (seen_leaves look) c.in_ok-push.ensures.ok ∙ map-append (seen_leaf look) so_far (next ∷ []) in
    subst (All IsHere) (sym more) (All-push IsHere (seen_leaves look so_far) (seen_leaf look next) c.loop-form.invariant c.in_ok-leaf.ensures)
