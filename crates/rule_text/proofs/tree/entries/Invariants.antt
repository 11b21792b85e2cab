use Rattle.std.proofs.Common.{◌≡◌, map, take}
use Rattle.sexp_text.specs.Printed.{without_spans}
use Rattle.rule_text.specs.Written.{written_pair}
use Rattle.rule_text.proofs.tree.entries.Given as goal

-- the entries so far are what the forms so far write
abbrev pub invariant-loop-form : goal.invariant-loop-form
invariant-loop-form l = map without_spans (take l.form-index l.forms) ≡ map written_pair l.pairs
