use Rattle.std.proofs.Common.{rules, arith}
use Rattle.sexp_text.specs.Printed.{without_spans}
use Rattle.rule_text.proofs.Slices.{list_2_up, length_of}
use Rattle.rule_text.proofs.TreeShapes.{map_written, map_spelled, map_parts, map_split}
use Rattle.rule_text.proofs.tree.map_tree.Goals as goal

pub returns-then-eq-clause-refused : goal.returns-then-eq-clause-refused
returns-then-eq-clause-refused c = λ _ tree w. let parts = map_parts _ _ tree w in let here = parts.4 in search rules

pub returns-in_default-clause-refused : goal.returns-in_default-clause-refused
returns-in_default-clause-refused c = λ _ tree w. let parts = map_parts _ _ tree w in let some = length_of without_spans c.args.parts.now _ parts.3 in absurd (omega arith)

pub returns-in_default-number-clause-refused : goal.returns-in_default-number-clause-refused
returns-in_default-number-clause-refused c =
    λ _ tree w. let parts = map_split _ _ _ _ tree c.in-len2-up.len_at_least c.key-item.is c.word-item.is w in c.in_default-number.ensures.other (search rules) parts.0 parts.3

pub returns-in_default-number-2-clause-refused : goal.returns-in_default-number-2-clause-refused
returns-in_default-number-2-clause-refused c =
    λ _ tree w. let parts = map_split _ _ _ _ tree c.in-len2-up.len_at_least c.key-item.is c.word-item.is w in c.in_default-number-2.ensures.other (search rules) parts.1 parts.4

pub returns-in_err-entries-clause-refused : goal.returns-in_err-entries-clause-refused
returns-in_err-entries-clause-refused c =
    λ u tree w. let parts = map_split _ _ _ _ tree c.in-len2-up.len_at_least c.key-item.is c.word-item.is w in c.in_err-entries.ensures.refused (search rules) parts.2 parts.5

pub returns-clause-ok : goal.returns-clause-ok
returns-clause-ok c =
    map_written c.args.place _ c.in-Some.key c.in-Some-number.word c.in_ok-entries.entries (search rules)
    (map_spelled _ _ _ _ _ _ _ (list_2_up _ _ _ c.in-len2-up.len_at_least c.key-item.is c.word-item.is) c.in-Some.ensures.number c.in-Some-number.ensures.number c.in_ok-entries.ensures.ok)
