use Rattle.std.proofs.Common.{rules, map, ap}
use Rattle.sexp_text.specs.Printed.{without_spans}
use Rattle.rule_text.proofs.Slices.{list_1}
use Rattle.rule_text.proofs.ItemShapes.{sort_parts}
use Rattle.rule_text.proofs.shape.sort_item.Goals as goal

pub returns-in_err-name-clause-refused : goal.returns-in_err-name-clause-refused
returns-in_err-name-clause-refused c =
    let all = ap (map without_spans) (list_1 _ _ c.in-len1.len_at_least c.in-len1.len_below c.name-item.is) in
    λ u i w. let parts = sort_parts _ i w in let whole = parts.1 in c.in_err-name.ensures.refused (search rules) parts.0 cc
