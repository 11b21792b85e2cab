-- Points without variables, and the one pair of states that such a point relates.
use Rattle.std.specs.Prelude.{◌≡◌, []}
use Rattle.sort_term.specs.declared.points.Point.{Point}
use Rattle.sort_term.specs.declared.problem.Problem.{Problem}
use Rattle.sort_term.specs.Tree.{Tree, Trees}
use Rattle.sort_term.specs.Relation.{Relates}

-- a point without variables and conditions
pub record IsGroundPoint (p : Point) : Type 0 where
  pub vars : p.vars ≡ []
  pub whens : p.whens ≡ []

-- (a, b) is a related pair of the point, and the only one
pub record IsOnlyPair (q : Problem) (p : Point) (a b : Tree) : Type 0 where
  pub relates : Relates q p [] a b
  pub only : (v : Trees) (c d : Tree) → Relates q p v c d → (c ≡ a) × (d ≡ b)
