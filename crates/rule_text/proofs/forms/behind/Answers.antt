use Rattle.std.proofs.Common.{◌≡◌, ◌∷◌, length, sym, ◌∙◌, arith}
use Rattle.sexp_text.specs.Printed.{without_spans}
use Rattle.rule_text.specs.Plain.{plain_word}
use Rattle.rule_text.proofs.Plain.{same_list}
use Rattle.rule_text.proofs.Slices.{length_of, map_front}
use Rattle.rule_text.proofs.forms.behind.Goals as goal

pub returns-in_default-clause-none : goal.returns-in_default-clause-none
returns-in_default-clause-none c =
    λ _ rest e. let some : length c.in_ok-forms.forms.now ≡ length (plain_word c.args.word.now ∷ rest) = length_of without_spans _ _ (same_list _ _ (sym c.in_ok-forms.ensures.list ∙ e)) in absurd (omega arith)

pub returns-then-not-is_word-clause-none : goal.returns-then-not-is_word-clause-none
returns-then-not-is_word-clause-none c =
    λ _ rest e. let word = c.is_word.ensures.1 (map_front without_spans _ _ _ _ c.in-len1-up.len_at_least c.front-item.is (same_list _ _ (sym c.in_ok-forms.ensures.list ∙ e))) in cc
