-- The verdict that the judge answers, in the words of the definitions.
use Rattle.std.specs.Prelude.{⊤}
use Rattle.sort_term.specs.Relation.{left}
use Rattle.sort_term.specs.Simulation.{Test, void, outside, long, halted}
use Rattle.sort_term.specs.Verdict.{Kind, ungrounded, unmatched, refines, equivalent}
use Rattle.ground_step.specs.Shows.{side_of}
use Rattle.ground_judge.specs.declared.kind.FailedTest.{FailedTest}
use Rattle.ground_judge.specs.declared.kind.FailedTest.TheVariants.{Void, Outside, Long, Halted}
use Rattle.ground_judge.specs.declared.kind.VerdictKind.{VerdictKind}
use Rattle.ground_judge.specs.declared.kind.VerdictKind.TheVariants.{Equivalent, Refines, Unmatched, NotGrounded}

-- the test that is named
abbrev pub test_of : FailedTest → Test
test_of Void = void
test_of (Outside side) = outside (side_of side)
test_of (Long side) = long (side_of side)
test_of (Halted side) = halted (side_of side)

-- the kind that is named, with its point
abbrev pub kind_of : VerdictKind → Kind
kind_of Equivalent = equivalent
kind_of (Refines k) = refines k left
kind_of (Unmatched k) = unmatched k
kind_of (NotGrounded k t) = ungrounded k (test_of t)

-- the kinds of a grounded relation
abbrev pub IsGroundedKind : VerdictKind → Type 0
IsGroundedKind (NotGrounded k t) = ⊥
IsGroundedKind _ = ⊤

-- the kinds of a grounded cut-simulation
abbrev pub IsSimulationKind : VerdictKind → Type 0
IsSimulationKind Equivalent = ⊤
IsSimulationKind (Refines k) = ⊤
IsSimulationKind _ = ⊥
