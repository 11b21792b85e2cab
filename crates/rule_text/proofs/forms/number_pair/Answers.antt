use Rattle.std.proofs.Common.{◌≡◌, [], ◌∷◌, map, refl, ap}
use Rattle.sexp_text.specs.Printed.{without_spans}
use Rattle.rule_text.proofs.Slices.{list_2}
use Rattle.rule_text.proofs.forms.number_pair.Goals as goal

pub returns-in_err-number-clause-none : goal.returns-in_err-number-clause-none
returns-in_err-number-clause-none c =
    let two : c.args.forms.now ≡ c.first-item.result ∷ c.second-item.result ∷ [] = list_2 _ _ _ c.in-len2.len_at_least c.in-len2.len_below c.first-item.is c.second-item.is in
    let parts = ap (map without_spans) two in
    λ _ m n e. c.in_err-number.ensures.other refl m cc

pub returns-in_err-number-2-clause-none : goal.returns-in_err-number-2-clause-none
returns-in_err-number-2-clause-none c =
    let two : c.args.forms.now ≡ c.first-item.result ∷ c.second-item.result ∷ [] = list_2 _ _ _ c.in-len2.len_at_least c.in-len2.len_below c.first-item.is c.second-item.is in
    let parts = ap (map without_spans) two in
    λ _ m n e. c.in_err-number-2.ensures.other refl n cc
