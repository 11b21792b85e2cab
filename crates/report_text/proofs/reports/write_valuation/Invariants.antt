use Rattle.std.proofs.Common.{◌≡◌, ◌++◌, map, take, length}
use Rattle.std.specs.List.{zip}
use Rattle.report_text.specs.Lines.{lines_of}
use Rattle.report_text.specs.Reports.{value_line}
use Rattle.report_text.proofs.reports.write_valuation.Given as goal

-- the lines of the variables so far were written
abbrev pub invariant-loop-var : goal.invariant-loop-var
invariant-loop-var l = l.text.items ≡ l.initial.text.items ++ lines_of (map value_line (take (length l.yielded) (zip l.vars l.values)))
