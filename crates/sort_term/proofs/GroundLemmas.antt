-- A well grounded relation is grounded.
use Rattle.std.proofs.Common.{arith, ◌≡◌, ◌≢◌, ℕ, ◌≤◌, [], length, ap}
use Rattle.sort_term.specs.declared.points.Point.{Point}
use Rattle.sort_term.specs.declared.problem.Problem.{Problem}
use Rattle.sort_term.specs.Relation.{Side, StepsOf, InCutOf, Long, Halted}
use Rattle.sort_term.specs.Simulation.{Test, void, outside, long, halted, HasTest, IsWellGroundedAt}
use Rattle.sort_term.specs.GroundLaws.{WellGroundedIsGrounded}
use Rattle.sort_term.proofs.Meets.{one_more}

module _ (q : Problem) (n : ℕ) (most : 1 ≤ n) (p : Point) (w : IsWellGroundedAt q n p) where
  not_long : (side : Side) → ¬ Long q n p side
  not_long side f =
      let run = f.2.0 in
      let is = f.2.1 in
      let moves : run ≢ [] = λ e. let l : length run ≡ 0 = ap length e in let long = is.long in absurd (omega arith) in
      let m = one_more (StepsOf q side) (InCutOf q side) f.0 n run ((w.sides side).meets f.0 f.1 run is.runs moves) is.clear in
      let short = m.0 in
      let long = is.long in
      absurd (omega arith)

  not_halted : (side : Side) → ¬ Halted q p side
  not_halted side f =
      let run = f.2.0 in
      let is = f.2.1 in
      let m = one_more (StepsOf q side) (InCutOf q side) f.0 n run ((w.sides side).meets f.0 f.1 run is.runs is.moves) is.clear in
      is.stuck m.1.0 m.1.1 m.1.2

  pub no_test : (t : Test) → ¬ HasTest q n p t
  no_test void f = f w.held.0 w.held.1
  no_test (outside side) f = f.2 ((w.sides side).inside f.0 f.1)
  no_test (long side) f = not_long side f
  no_test (halted side) f = not_halted side f

pub well_grounded : WellGroundedIsGrounded
well_grounded q n most w k p there f = no_test q n most p (w k p there) f.0 f.1
