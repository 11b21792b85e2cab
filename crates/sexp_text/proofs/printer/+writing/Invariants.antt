use Rattle.std.proofs.Common.{◌≡◌, ◌++◌, map, take}
use Rattle.sexp_text.specs.Print.{text_of, behind}
use Rattle.sexp_text.proofs.printer.+writing.Given as goal

-- the texts of the forms so far were written
abbrev pub invariant-write_forms-loop-form : goal.invariant-write_forms-loop-form
invariant-write_forms-loop-form l = l.text.items ≡ l.initial.text.items ++ behind 32 (map text_of (take l.form-index l.rest))
