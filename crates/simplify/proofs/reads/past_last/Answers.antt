use Rattle.std.proofs.Common.{arith, ◌≡◌, true, false, nat_eq, List, [], ◌∷◌, length, sym, ap, ◌∙◌}
use Rattle.data_value.specs.declared.Value.{Value}
use Rattle.data_value.specs.declared.Op.TheVariants.{Put}
use Rattle.data_value.specs.Nodes.{Apply}
use Rattle.simplify.specs.Rewrites.{word_at}
use Rattle.simplify.proofs.ItemLemmas.{three_items}
use Rattle.simplify.proofs.ReadLemmas.{past_word, past_before}
use Rattle.simplify.proofs.reads.past_last.Goals as goal

pub returns-in_ok-copy-in-Some-true : goal.returns-in_ok-copy-in-Some-true
returns-in_ok-copy-in-Some-true g c =
    let d = c.args.d.now in
    let look = g.D.Domain.look d in
    let vars = g.D.Domain.variables d in
    let before = c.before-item.result in
    let at = c.at-item.result in
    let word = c.word-item.result in
    let args = c.in-Apply-Put-default.args.now in
    let long : length args ≡ 3 = omega (arith, c.in-len3.len_at_least, c.in-len3.len_below) in
    let items : args ≡ before ∷ at ∷ word ∷ [] = three_items args before at word long c.before-item.is c.at-item.is c.word-item.is in
    let put : c.in-Apply-Put-default.field-0 ≡ Put = cc in
    let shown : (look c.args.map.now).shown ≡ Apply Put (before ∷ at ∷ word ∷ []) = sym c.in-Apply-Put-default.ensures ∙ ap (λ op. Apply op args) put ∙ ap (Apply Put) items in
    let same : (v : List Value) → nat_eq (word_at (look at) v) (word_at (look c.args.key.now) v) ≡ true = λ v. let h = c.in-Some-true.ensures v in cc in
    past_word look vars c.args.map.now c.args.key.now before at word ((g.met.D.Symbolic.views d).shows c.args.map.now c.requires.map) shown c.requires.key c.requires.sorted
    (g.met.D.Domain.laws d) same (look c.in_ok-copy-in-Some-true.field-0) c.in_ok-copy-in-Some-true.ensures

pub returns-in_ok-copy-in-Some-false : goal.returns-in_ok-copy-in-Some-false
returns-in_ok-copy-in-Some-false g c =
    let d = c.args.d.now in
    let look = g.D.Domain.look d in
    let vars = g.D.Domain.variables d in
    let before = c.before-item.result in
    let at = c.at-item.result in
    let word = c.word-item.result in
    let args = c.in-Apply-Put-default.args.now in
    let long : length args ≡ 3 = omega (arith, c.in-len3.len_at_least, c.in-len3.len_below) in
    let items : args ≡ before ∷ at ∷ word ∷ [] = three_items args before at word long c.before-item.is c.at-item.is c.word-item.is in
    let put : c.in-Apply-Put-default.field-0 ≡ Put = cc in
    let shown : (look c.args.map.now).shown ≡ Apply Put (before ∷ at ∷ word ∷ []) = sym c.in-Apply-Put-default.ensures ∙ ap (λ op. Apply op args) put ∙ ap (Apply Put) items in
    let other : (v : List Value) → nat_eq (word_at (look at) v) (word_at (look c.args.key.now) v) ≡ false = λ v. let h = c.in-Some-false.ensures v in cc in
    past_before look vars c.args.map.now c.args.key.now before at word ((g.met.D.Symbolic.views d).shows c.args.map.now c.requires.map) shown c.requires.key c.requires.sorted other c.in_ok-copy-in-Some-false.field-0 c.in_ok-copy-in-Some-false.ensures
