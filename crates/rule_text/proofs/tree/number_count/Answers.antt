use Rattle.std.proofs.Common.{rules}
use Rattle.rule_text.proofs.TreeShapes.{as_operator}
use Rattle.rule_text.proofs.tree.number_count.Goals as goal
use Rattle.rule_text.proofs.tree.number_count.Goals.{else-numbers-forms-via-then-numbers-forms+else-forms-numbers, else-numbers-forms-via-else-numbers-forms}

pub returns-clause-none : goal.returns-clause-none
returns-clause-none c =
    λ _ numbers arguments sum head.
    let same = as_operator c.args.place c.args.name.now c.in_ok-numbers.numbers c.in_ok-numbers.arguments numbers arguments (search rules) (search rules) head in
    let numbered = same.0 in
    let others = same.1 in
    elim c.else-numbers-forms.branch [
      | else-numbers-forms-via-then-numbers-forms+else-forms-numbers w ↦ search rules
      | else-numbers-forms-via-else-numbers-forms w ↦ search rules
    ]
