use Rattle.std.proofs.Common.{◌≡◌, map, take}
use Rattle.std.specs.List.{AllPass}
use Rattle.sexp_text.specs.Printed.{without_spans}
use Rattle.rule_text.specs.Lawful.{is_lawful_tree}
use Rattle.rule_text.specs.Written.{written_tree}
use Rattle.rule_text.proofs.tree.+tree.Given as goal

-- the arguments so far are what the forms so far write
abbrev pub invariant-list_tree-loop-form : goal.invariant-list_tree-loop-form
invariant-list_tree-loop-form l = record {
  spelled : map without_spans (take l.form-index l.form-items) ≡ map written_tree l.args;
  lawful : AllPass (is_lawful_tree l.place) l.args;
}
