use Rattle.std.proofs.Common.{rules}
use Rattle.rule_text.proofs.ItemShapes.{row_split}
use Rattle.rule_text.proofs.shape.row_item.Goals as goal

pub returns-in_default-number-clause-refused : goal.returns-in_default-number-clause-refused
returns-in_default-number-clause-refused c =
    λ u i w. let parts = row_split _ _ _ _ i c.in-len3.len_at_least c.in-len3.len_below c.table-item.is c.key-item.is c.term-item.is w in c.in_default-number.ensures.other (search rules) parts.1 parts.4

pub returns-in_err-table-clause-refused : goal.returns-in_err-table-clause-refused
returns-in_err-table-clause-refused c =
    λ u i w. let parts = row_split _ _ _ _ i c.in-len3.len_at_least c.in-len3.len_below c.table-item.is c.key-item.is c.term-item.is w in c.in_err-table.ensures.refused (search rules) parts.0 parts.3

pub returns-in-Err-clause-refused : goal.returns-in-Err-clause-refused
returns-in-Err-clause-refused c =
    λ u i w. let parts = row_split _ _ _ _ i c.in-len3.len_at_least c.in-len3.len_below c.table-item.is c.key-item.is c.term-item.is w in c.in-Err.ensures.refused (search rules) parts.2 parts.5
