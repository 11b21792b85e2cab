use Rattle.std.proofs.Common.{[], ◌∷◌, ◌++◌, ap, ◌∙◌}
use Rattle.name_resolution.specs.Names.{place_of, IsNew}
use Rattle.name_resolution.proofs.Declaring.{new_of_distinct, names_more, if_new}
use Rattle.name_resolution.proofs.vocabulary.name_table.Goals as goal

pub loop-item-preserved : goal.loop-item-preserved
loop-item-preserved g c =
    let key = g.T.Named.name_of in
    let x = c.item-item.result in
    let i = c.loop-item.item-index in
    let new : IsNew (key x) c.loop-item.table = new_of_distinct key c.args.items.now i x c.loop-item-test.true c.item-item.is c.loop-item.table c.loop-item.invariant c.requires in
    let word = c.name.result.now in
    names_more key c.args.items.now i x c.loop-item-test.true c.item-item.is c.loop-item.table c.loop-item.invariant word c.declare_word.new.self c.name.ensures
    (if_new c.in_ok-declare_word.field-0 (IsNew word c.loop-item.table) c.declare_word.new.self (c.loop-item.table ++ word ∷ []) c.loop-item.table c.in_ok-declare_word.ensures.told (ap (λ n. place_of n c.loop-item.table) c.name.ensures ∙ new) c.in_ok-declare_word.ensures.added)
