use Rattle.std.proofs.Common.{refl, sym, ap, ◌∙◌}
use Rattle.rule_text.specs.declared.item.RawVar.{RawVar}
use Rattle.sort_term.specs.Names.{IsFree, is_reserved_word}
use Rattle.name_resolution.specs.Names.{IsNew}
use Rattle.name_resolution.proofs.Declaring.{new_of_distinct, names_more, distinct_more, all_more, if_new, no_new}
use Rattle.name_resolution.proofs.declared_variables.variable_names.Goals as goal

pub returns-then-not-is_new : goal.returns-then-not-is_new
returns-then-not-is_new c = λ lawful.
    no_new c.in_ok-is_new.is_new (IsNew c.raw-item.result.name c.loop-raw.names) c.in_ok-is_new.ensures.told c.if-not-is_new.true
    (new_of_distinct (λ (x : RawVar). x.name) c.args.raws.now c.loop-raw.raw-index c.raw-item.result c.loop-raw-test.true c.raw-item.is c.loop-raw.names c.loop-raw.invariant.named lawful.distinct)

pub loop-raw-preserved : goal.loop-raw-preserved
loop-raw-preserved c =
    let x = c.raw-item.result in
    let i = c.loop-raw.raw-index in
    let new : IsNew x.name c.loop-raw.names = c.in_ok-is_new.ensures.told.0 c.if-not-is_new.false in
    let free : IsFree x.name = ap is_reserved_word (sym c.as_slice.ensures.bytes) ∙ sym c.is_reserved.ensures ∙ c.if-is_reserved.false in
    record {
      named = names_more (λ (x : RawVar). x.name) c.args.raws.now i x c.loop-raw-test.true c.raw-item.is c.loop-raw.names c.loop-raw.invariant.named x.name c.declare.new.self refl (if_new c.in_ok-is_new.is_new (IsNew x.name c.loop-raw.names) _ _ _ c.in_ok-is_new.ensures.told new c.in_ok-is_new.ensures.added);
      lawful = record {
        free = all_more (λ (x : RawVar). x.name) c.args.raws.now i x c.loop-raw-test.true c.raw-item.is (λ (y : RawVar). IsFree y.name) c.loop-raw.invariant.lawful.free free;
        distinct = distinct_more (λ (x : RawVar). x.name) c.args.raws.now i x c.loop-raw-test.true c.raw-item.is c.loop-raw.names c.loop-raw.invariant.named new c.loop-raw.invariant.lawful.distinct;
      };
    }
