use Rattle.std.proofs.Common.{rules}
use Rattle.rule_text.proofs.ItemShapes.{cut_split, cut_written}
use Rattle.rule_text.proofs.shape.cut_item.Goals as goal

pub returns-in_default-is_left-clause-refused : goal.returns-in_default-is_left-clause-refused
returns-in_default-is_left-clause-refused c =
    λ u i w. let parts = cut_split _ _ _ _ _ c.in-len4-up.len_at_least c.side-item.is c.name-item.is c.variables-item.is c.pattern-item.is i w in c.in_default-is_left.ensures.none (search rules) parts.0 parts.3

pub returns-in_err-name-clause-refused : goal.returns-in_err-name-clause-refused
returns-in_err-name-clause-refused c =
    λ u i w. let parts = cut_split _ _ _ _ _ c.in-len4-up.len_at_least c.side-item.is c.name-item.is c.variables-item.is c.pattern-item.is i w in c.in_err-name.ensures.refused (search rules) parts.1 parts.4

pub returns-in-Err-clause-refused : goal.returns-in-Err-clause-refused
returns-in-Err-clause-refused c =
    λ u i w. let parts = cut_split _ _ _ _ _ c.in-len4-up.len_at_least c.side-item.is c.name-item.is c.variables-item.is c.pattern-item.is i w in c.in-Err.ensures.refused (search rules) parts.2 parts.5

pub returns-in-Ok-clause-ok : goal.returns-in-Ok-clause-ok
returns-in-Ok-clause-ok c = cut_written _ _ _ _ _ c.in-len4-up.len_at_least c.side-item.is c.name-item.is c.variables-item.is c.pattern-item.is _ _ _ c.in-Some.ensures.some c.in_ok-name.ensures.ok c.in-Ok.ensures.ok
