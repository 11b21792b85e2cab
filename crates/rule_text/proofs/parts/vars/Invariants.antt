use Rattle.std.proofs.Common.{◌≡◌, map, take, All}
use Rattle.sexp_text.specs.Printed.{without_spans}
use Rattle.rule_text.specs.Written.{written_var}
use Rattle.rule_text.specs.Lawful.{IsSort}
use Rattle.rule_text.proofs.parts.vars.Given as goal

-- the vars so far are what the forms so far write
abbrev pub invariant-loop-pair : goal.invariant-loop-pair
invariant-loop-pair l = record {
  spelled : map without_spans (take l.pair-index l.pairs) ≡ map written_var l.vars;
  lawful : All (λ x. IsSort x.sort) l.vars;
}
