use Rattle.std.proofs.Common.{rules, ◌≡◌, map, length, ap, subst}
use Rattle.sexp_text.specs.Printed.{without_spans}
use Rattle.rule_text.proofs.Slices.{list_2, length_of}
use Rattle.rule_text.proofs.PartShapes.{LetParts, let_parts, two_parts, no_pattern, no_row_key, no_source}
use Rattle.rule_text.proofs.parts.let_demand.Goals as goal

pub returns-in_default-clause-refused : goal.returns-in_default-clause-refused
returns-in_default-clause-refused c =
    λ _ demand w. let two : length c.args.parts.now ≡ 2 = length_of without_spans _ _ (two_parts _ (let_parts _ demand w)).2 in search rules

pub returns-in_err-pattern-clause-refused : goal.returns-in_err-pattern-clause-refused
returns-in_err-pattern-clause-refused c =
    let split = ap (map without_spans) (list_2 _ _ _ c.in-len2.len_at_least c.in-len2.len_below c.pattern-item.is c.source-item.is) in
    λ u demand w. no_pattern _ _ (c.in_err-pattern.ensures.refused (search rules)) (subst LetParts split (let_parts _ demand w))

pub returns-in-Err-clause-refused : goal.returns-in-Err-clause-refused
returns-in-Err-clause-refused c =
    let split = ap (map without_spans) (list_2 _ _ _ c.in-len2.len_at_least c.in-len2.len_below c.pattern-item.is c.source-item.is) in
    λ u demand w. no_row_key _ _ _ c.in-Some.ensures.some (c.in-Err.ensures.refused (search rules)) (subst LetParts split (let_parts _ demand w))

pub returns-in-Err-tree-clause-refused : goal.returns-in-Err-tree-clause-refused
returns-in-Err-tree-clause-refused c =
    let split = ap (map without_spans) (list_2 _ _ _ c.in-len2.len_at_least c.in-len2.len_below c.pattern-item.is c.source-item.is) in
    λ u demand w. no_source _ _ (c.behind.ensures.none (search rules)) (c.in-Err-tree.ensures.refused (search rules)) (subst LetParts split (let_parts _ demand w))
