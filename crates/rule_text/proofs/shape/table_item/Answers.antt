use Rattle.std.proofs.Common.{rules, map, ap}
use Rattle.sexp_text.specs.Printed.{without_spans}
use Rattle.rule_text.proofs.Slices.{list_3}
use Rattle.rule_text.proofs.ItemShapes.{table_parts}
use Rattle.rule_text.proofs.shape.table_item.Goals as goal

pub returns-in_default-number-clause-refused : goal.returns-in_default-number-clause-refused
returns-in_default-number-clause-refused c =
    let all = ap (map without_spans) (list_3 _ _ _ _ c.in-len3.len_at_least c.in-len3.len_below c.name-item.is c.key-item.is c.written-item.is) in
    λ u i w. let parts = table_parts _ i w in let whole = parts.3 in c.in_default-number.ensures.other (search rules) parts.1 cc

pub returns-in_err-name-clause-refused : goal.returns-in_err-name-clause-refused
returns-in_err-name-clause-refused c =
    let all = ap (map without_spans) (list_3 _ _ _ _ c.in-len3.len_at_least c.in-len3.len_below c.name-item.is c.key-item.is c.written-item.is) in
    λ u i w. let parts = table_parts _ i w in let whole = parts.3 in c.in_err-name.ensures.refused (search rules) parts.0 cc

pub returns-in_err-sort-clause-refused : goal.returns-in_err-sort-clause-refused
returns-in_err-sort-clause-refused c =
    let all = ap (map without_spans) (list_3 _ _ _ _ c.in-len3.len_at_least c.in-len3.len_below c.name-item.is c.key-item.is c.written-item.is) in
    λ u i w. let parts = table_parts _ i w in let whole = parts.3 in c.in_err-sort.ensures.refused (search rules) parts.2 record { spelled = cc; lawful = parts.4 }
