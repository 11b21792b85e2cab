use Rattle.std.proofs.Common.{◌∙◌, arith, rules}
use Rattle.keq_cli.proofs.Steps.{no_steps, some_steps}
use Rattle.keq_cli.proofs.words.parse_steps.Goals as goal

pub returns-in_err-steps-clause-value : goal.returns-in_err-steps-clause-value
returns-in_err-steps-clause-value c =
    let first = c.if-starts_with.ensures.byte (omega arith) (omega arith) (λ text found is. is) in
    c.from_residual.ensures ∙ no_steps c.args.word.now c.parse.result c.parse.ensures.value.0 first c.in_err-steps.ensures.value

pub returns-then-contains-clause-value : goal.returns-then-contains-clause-value
returns-then-contains-clause-value c =
    let first = c.if-starts_with.ensures.byte (omega arith) (omega arith) (λ text found is. is) in
    some_steps c.args.word.now c.parse.result c.in_ok-steps.steps c.parse.ensures.value.0 first c.in_ok-steps.ensures.value (omega arith) (search rules) (search rules)
