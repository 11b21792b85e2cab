use Rattle.std.proofs.Common.{rules, map, ap}
use Rattle.sexp_text.specs.Printed.{without_spans}
use Rattle.rule_text.proofs.Slices.{list_2}
use Rattle.rule_text.proofs.parts.row_key.Goals as goal

pub returns-in_err-table-clause-refused : goal.returns-in_err-table-clause-refused
returns-in_err-table-clause-refused c =
    let parts = ap (map without_spans) (list_2 _ _ _ c.in-len2.len_at_least c.in-len2.len_below c.table-item.is c.key-item.is) in
    λ u row w. let whole = w.spelled in c.in_err-table.ensures.refused (search rules) row.0 cc
