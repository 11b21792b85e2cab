use Rattle.std.proofs.Common.{◌≡◌, map, take, All}
use Rattle.sexp_text.specs.Printed.{without_spans}
use Rattle.rule_text.specs.Written.{written_sort}
use Rattle.rule_text.specs.Lawful.{IsSort}
use Rattle.rule_text.proofs.parts.sorts.Given as goal

-- the sorts so far are what the forms so far write
abbrev pub invariant-loop-form : goal.invariant-loop-form
invariant-loop-form l = record {
  spelled : map without_spans (take l.form-index l.forms) ≡ map written_sort l.sorts;
  lawful : All IsSort l.sorts;
}
