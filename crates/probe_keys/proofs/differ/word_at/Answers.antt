use Rattle.std.proofs.Common.{◌≡◌, ◌∷◌, ◌++◌, [], map, ap, ◌∙◌}
use Rattle.data_value.specs.declared.Op.TheVariants.{Get}
use Rattle.data_value.specs.Alike.{AreAlike}
use Rattle.data_value.proofs.AlikeLemmas.{applied_alike}
use Rattle.probe_keys.proofs.differ.word_at.Goals as goal

pub returns-clause-word : goal.returns-clause-word
returns-clause-word g c =
    let look = g.D.Domain.look c.args.d.now in
    let args : c.as_slice.result.now ≡ c.in_ok-copy.field-0 ∷ c.in_ok-copy-2.field-0 ∷ [] = c.as_slice.ensures.value ∙ c.in_ok-push-2.ensures.items ∙ ap (λ xs. xs ++ c.in_ok-copy-2.field-0 ∷ []) (c.in_ok-push.ensures.items ∙ ap (λ xs. xs ++ c.in_ok-copy.field-0 ∷ []) c.new-args.ensures.items) in
    let map_same : look c.in_ok-copy.field-0 ≡ look c.args.map.now = c.in_ok-copy.ensures in
    let key_same : look c.in_ok-copy-2.field-0 ≡ look c.args.key.now = c.in_ok-copy-2.ensures in
    let alike : AreAlike look c.as_slice.result.now (c.args.map.now ∷ c.args.key.now ∷ []) =
    ap (map look) args ∙ ap (λ s. s ∷ look c.in_ok-copy-2.field-0 ∷ []) map_same ∙ ap (λ s. look c.args.map.now ∷ s ∷ []) key_same in
    applied_alike look _ Get c.as_slice.result.now (c.args.map.now ∷ c.args.key.now ∷ []) _ alike c.in_ok-apply.ensures.made
