use Rattle.std.proofs.Common.{map, ap}
use Rattle.sexp_text.specs.Printed.{without_spans}
use Rattle.rule_text.proofs.Slices.{list_1}
use Rattle.rule_text.proofs.forms.one_number.Goals as goal

pub returns-clause-none : goal.returns-clause-none
returns-clause-none c =
    let parts = ap (map without_spans) (list_1 _ _ c.in-len1.len_at_least c.in-len1.len_below c.form-item.is) in
    λ none n e. c.number.ensures.other none n cc
