use Rattle.std.proofs.Common.{◌≡◌, ◌++◌, map, take}
use Rattle.sexp_text.specs.Print.{behind}
use Rattle.report_text.specs.Values.{entry_text}
use Rattle.report_text.proofs.values.write_entries.Given as goal

-- the entries so far were written, each behind a space
abbrev pub invariant-loop-place : goal.invariant-loop-place
invariant-loop-place l = l.text.items ≡ l.initial.text.items ++ behind 32 (map entry_text (take l.place l.mapping.entries))
