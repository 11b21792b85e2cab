use Rattle.std.proofs.Common.{rules}
use Rattle.rule_text.proofs.ItemShapes.{point_split, point_written}
use Rattle.rule_text.proofs.shape.point_item.Goals as goal

pub returns-in_err-name-clause-refused : goal.returns-in_err-name-clause-refused
returns-in_err-name-clause-refused c =
    λ u i w. let parts = point_split _ _ _ _ _ c.in-len4-up.len_at_least c.name-item.is c.variables-item.is c.left-item.is c.right-item.is i w in c.in_err-name.ensures.refused (search rules) parts.0 parts.2

pub returns-in-Err-clause-refused : goal.returns-in-Err-clause-refused
returns-in-Err-clause-refused c =
    λ u i w. let parts = point_split _ _ _ _ _ c.in-len4-up.len_at_least c.name-item.is c.variables-item.is c.left-item.is c.right-item.is i w in c.in-Err.ensures.refused (search rules) parts.1 parts.3

pub returns-in-Ok-clause-ok : goal.returns-in-Ok-clause-ok
returns-in-Ok-clause-ok c = point_written _ _ _ _ _ c.in-len4-up.len_at_least c.name-item.is c.variables-item.is c.left-item.is c.right-item.is _ _ c.in_ok-name.ensures.ok c.in-Ok.ensures.ok
