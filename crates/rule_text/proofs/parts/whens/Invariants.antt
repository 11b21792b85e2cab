use Rattle.std.proofs.Common.{◌≡◌, map, take, All}
use Rattle.sexp_text.specs.Printed.{without_spans}
use Rattle.rule_text.specs.Written.{written_when}
use Rattle.rule_text.specs.Lawful.{IsExpression}
use Rattle.rule_text.proofs.parts.whens.Given as goal

-- the whens so far are what the forms so far write
abbrev pub invariant-loop-form : goal.invariant-loop-form
invariant-loop-form l = record {
  spelled : map without_spans (take l.form-index l.forms) ≡ map written_when l.whens;
  lawful : All IsExpression l.whens;
}
