use Rattle.std.proofs.Common.{map, ap, ◌∙◌}
use Rattle.std.specs.Prelude.{option_and_then}
use Rattle.name_resolution.specs.Operators.{first_named, with_numbers, operator_of}
use Rattle.name_resolution.specs.declared.operators.TheConstants.{OPERATOR_NAMES}
use Rattle.name_resolution.proofs.operators.operator_of.Goals as goal

pub returns-in-Some : goal.returns-in-Some
unfolding operator_of
returns-in-Some c =
    c.with_numbers.ensures
    ∙ ap (option_and_then (with_numbers c.args.numbers.now)) c.in-Some.ensures
    ∙ ap (λ name. option_and_then (with_numbers c.args.numbers.now) (first_named name (map (λ row. (row.0.now, row.1)) OPERATOR_NAMES))) c.as_slice.ensures.bytes

pub returns-in-None : goal.returns-in-None
unfolding operator_of
returns-in-None c =
    ap (option_and_then (with_numbers c.args.numbers.now)) c.in-None.ensures
    ∙ ap (λ name. option_and_then (with_numbers c.args.numbers.now) (first_named name (map (λ row. (row.0.now, row.1)) OPERATOR_NAMES))) c.as_slice.ensures.bytes
