use Rattle.std.proofs.Common.{rules, ◌≡◌, map, length, ap}
use Rattle.sexp_text.specs.Printed.{without_spans}
use Rattle.rule_text.proofs.Slices.{list_1, length_of}
use Rattle.rule_text.proofs.PartShapes.{when_parts}
use Rattle.rule_text.proofs.parts.when.Goals as goal

pub returns-in_default-parts-clause-refused : goal.returns-in_default-parts-clause-refused
returns-in_default-parts-clause-refused c =
    λ _ condition w. let one : length c.in-Some.parts.now ≡ 1 = length_of without_spans _ _ (when_parts _ _ condition c.in-Some.ensures.some w) in search rules

pub returns-clause-refused : goal.returns-clause-refused
returns-clause-refused c =
    let parts = ap (map without_spans) (list_1 _ _ c.in-len1.len_at_least c.in-len1.len_below c.condition-item.is) in
    λ u condition w. let whole = when_parts _ _ condition c.in-Some.ensures.some w in c.tree.ensures.refused u condition record { spelled = cc; lawful = w.lawful }
