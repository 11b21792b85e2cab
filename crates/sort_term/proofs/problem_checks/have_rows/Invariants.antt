use Rattle.std.proofs.Common.{◌≡◌, ℕ, ◌<◌, List, slice_get, Some}
use Rattle.sort_term.specs.declared.semantics.Table.{Table}
use Rattle.sort_term.specs.declared.program.Row.{Row}
use Rattle.sort_term.specs.Problems.{AreRows}
use Rattle.sort_term.proofs.problem_checks.have_rows.Given as goal

abbrev pub invariant-loop-k : goal.invariant-loop-k
invariant-loop-k l = (j : ℕ) → j < l.k → (t : Table) (rows : List Row) → slice_get l.tables j ≡ Some t → slice_get l.lists j ≡ Some rows → AreRows l.cons t rows
