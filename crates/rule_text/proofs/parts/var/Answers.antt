use Rattle.std.proofs.Common.{rules, map, sym, ◌∙◌, ap, length, ◌≡◌}
use Rattle.sexp_text.specs.Printed.{without_spans}
use Rattle.rule_text.proofs.Plain.{same_list}
use Rattle.rule_text.proofs.Slices.{list_2, length_of}
use Rattle.rule_text.proofs.parts.var.Goals as goal

pub returns-in_default-forms-clause-refused : goal.returns-in_default-forms-clause-refused
returns-in_default-forms-clause-refused c =
    λ _ var w. let two : length c.in-Some.forms.now ≡ 2 = length_of without_spans _ _ (same_list _ _ (sym c.in-Some.ensures.list ∙ w.spelled)) in search rules

pub returns-in_err-name-clause-refused : goal.returns-in_err-name-clause-refused
returns-in_err-name-clause-refused c =
    let parts = ap (map without_spans) (list_2 _ _ _ c.in-len2.len_at_least c.in-len2.len_below c.name-item.is c.written-item.is) in
    λ u var w. let whole = same_list _ _ (sym c.in-Some.ensures.list ∙ w.spelled) in c.in_err-name.ensures.refused (search rules) var.name cc

pub returns-in_err-sort-clause-refused : goal.returns-in_err-sort-clause-refused
returns-in_err-sort-clause-refused c =
    let parts = ap (map without_spans) (list_2 _ _ _ c.in-len2.len_at_least c.in-len2.len_below c.name-item.is c.written-item.is) in
    λ u var w. let whole = same_list _ _ (sym c.in-Some.ensures.list ∙ w.spelled) in c.in_err-sort.ensures.refused (search rules) var.sort record { spelled = cc; lawful = w.lawful }
