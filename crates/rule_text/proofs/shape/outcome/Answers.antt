use Rattle.std.proofs.Common.{rules}
use Rattle.rule_text.proofs.ItemShapes.{ends_of}
use Rattle.rule_text.proofs.shape.outcome.Goals as goal

pub returns-then-not-is_word-clause-refused : goal.returns-then-not-is_word-clause-refused
returns-then-not-is_word-clause-refused c =
    λ _ demands outcome w. let ends = ends_of _ _ _ demands outcome c.in-len2-up.len_at_least c.arrow-item.is c.outcome-item.is w in let is = c.is_word.ensures.1 ends.1 in cc

pub returns-in_err-demands-clause-refused : goal.returns-in_err-demands-clause-refused
returns-in_err-demands-clause-refused c =
    λ u demands outcome w. let ends = ends_of _ _ _ demands outcome c.in-len2-up.len_at_least c.arrow-item.is c.outcome-item.is w in c.in_err-demands.ensures.refused (search rules) demands record { spelled = ends.0; lawful = w.lawful_demands }

pub returns-in-Err-clause-refused : goal.returns-in-Err-clause-refused
returns-in-Err-clause-refused c =
    λ u demands outcome w. let ends = ends_of _ _ _ demands outcome c.in-len2-up.len_at_least c.arrow-item.is c.outcome-item.is w in c.in-Err.ensures.refused (search rules) outcome record { spelled = ends.2; lawful = w.lawful_outcome }
