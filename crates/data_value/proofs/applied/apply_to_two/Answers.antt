use Rattle.std.proofs.Common.{◌∷◌, [], map, ap, ◌∙◌}
use Rattle.data_value.specs.Alike.{AreAlike}
use Rattle.data_value.proofs.AlikeLemmas.{sorted_alike, applied_alike}
use Rattle.data_value.proofs.applied.apply_to_two.Goals as goal

pub apply-requires-clause-sorted : goal.apply-requires-clause-sorted
apply-requires-clause-sorted g c =
    let look = g.D.Domain.look c.args.d.now in
    let alike : AreAlike look c.as_slice.result.now (c.args.a.now ∷ c.args.b.now ∷ []) = ap (map look) c.as_slice.ensures.value ∙ c.in_ok-args.ensures in
    sorted_alike look c.args.op c.as_slice.result.now (c.args.a.now ∷ c.args.b.now ∷ []) alike c.requires.sorted

pub returns-clause-made : goal.returns-clause-made
returns-clause-made g c =
    let look = g.D.Domain.look c.args.d.now in
    let alike : AreAlike look c.as_slice.result.now (c.args.a.now ∷ c.args.b.now ∷ []) = ap (map look) c.as_slice.ensures.value ∙ c.in_ok-args.ensures in
    applied_alike look _ c.args.op c.as_slice.result.now (c.args.a.now ∷ c.args.b.now ∷ []) _ alike c.in_ok-apply.ensures.made
