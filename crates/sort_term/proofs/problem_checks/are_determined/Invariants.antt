use Rattle.std.proofs.Common.{ℕ, ◌<◌, ◌||◌, IsTrue}
use Rattle.sort_term.specs.Stands.{is_argument}
use Rattle.sort_term.proofs.problem_checks.are_determined.Given as goal

abbrev pub invariant-loop-i : goal.invariant-loop-i
invariant-loop-i l = (j : ℕ) → j < l.i → IsTrue (is_argument j l.left || is_argument j l.right)
