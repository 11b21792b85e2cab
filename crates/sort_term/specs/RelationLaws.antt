-- Laws of related pairs.
use Rattle.std.specs.Prelude.{◌≡◌, ℕ}
use Rattle.sort_term.specs.declared.points.Point.{Point}
use Rattle.sort_term.specs.declared.problem.Problem.{Problem}
use Rattle.sort_term.specs.Tree.{Tree, Trees}
use Rattle.sort_term.specs.Relation.{IsPoint, Relates}

-- a point of a problem relates a pair of states under at most one valuation
abbrev pub OneRelation : Type 0
OneRelation = (q : Problem) (k : ℕ) (p : Point) → IsPoint q k p → (v w : Trees) (a b : Tree) → Relates q p v a b → Relates q p w a b → v ≡ w
