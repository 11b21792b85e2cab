use Rattle.std.proofs.Common.{rules}
use Rattle.rule_text.proofs.PartShapes.{no_bits_sort, no_map_sort, no_sort}
use Rattle.rule_text.proofs.parts.sort.Goals as goal

pub returns-in-None-clause-refused : goal.returns-in-None-clause-refused
returns-in-None-clause-refused c = λ _ sort w. no_bits_sort _ _ sort c.in-Some.ensures.some (c.one_number.ensures.none (search rules)) w.spelled

pub returns-in-None-number_pair-clause-refused : goal.returns-in-None-number_pair-clause-refused
returns-in-None-number_pair-clause-refused c = λ _ sort w. no_map_sort _ _ sort c.in-Some-behind.ensures.some (c.number_pair.ensures.none (search rules)) w.spelled

pub returns-in_err-word-clause-refused : goal.returns-in_err-word-clause-refused
returns-in_err-word-clause-refused c = λ u sort w. no_sort _ sort (c.behind.ensures.none (search rules)) (c.behind-2.ensures.none (search rules)) (c.in_err-word.ensures.refused (search rules)) w.spelled
