use Rattle.std.proofs.Common.{◌≡◌, map, take}
use Rattle.sexp_text.specs.Printed.{without_spans}
use Rattle.rule_text.specs.Plain.{plain_number}
use Rattle.rule_text.proofs.forms.numbers.Given as goal

-- the numbers so far are what the forms so far are
abbrev pub invariant-loop-form : goal.invariant-loop-form
invariant-loop-form l = map without_spans (take l.form-index l.forms) ≡ map plain_number l.numbers
