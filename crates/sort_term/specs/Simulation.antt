-- Grounded relations, cut-simulations and cut-bisimulations.
use Rattle.std.specs.Prelude.{ℕ, ◌⊎◌}
use Rattle.sort_term.specs.declared.points.Point.{Point}
use Rattle.sort_term.specs.declared.problem.Problem.{Problem}
use Rattle.sort_term.specs.Tree.{Tree, Trees}
use Rattle.sort_term.specs.StateSets.{KeepsMeeting}
use Rattle.sort_term.specs.Relation.{Side, left, right, IsPoint, Holds, Related, EachPair, IsStateOf, StepsOf, InCutOf, SucceedsOf, Void, Outside, Long, Halted, IsUndefined, RightMisses, RightFails, LeftFails}

-- no point has P, and each point has P
abbrev pub NoPoint : Problem → (Point → Type 0) → Type 0
NoPoint q P = (k : ℕ) (p : Point) → IsPoint q k p → ¬ P p

abbrev pub EachPoint : Problem → (Point → Type 0) → Type 0
EachPoint q P = (k : ℕ) (p : Point) → IsPoint q k p → P p

-- the seven tests of a point
pub data Test : Type 0 where
  void : Test
  outside : Side → Test
  long : Side → Test
  halted : Side → Test

abbrev pub HasTest : Problem → ℕ → Point → Test → Type 0
HasTest q n p void = Void q p
HasTest q n p (outside side) = Outside q p side
HasTest q n p (long side) = Long q n p side
HasTest q n p (halted side) = Halted q p side

-- some test holds at the point
abbrev pub IsUngrounded : Problem → ℕ → Point → Type 0
IsUngrounded q n p = (t : Test) × HasTest q n p t

-- the relation is grounded for n: no point is void, outside, long for n, or halted
abbrev pub IsGrounded : Problem → ℕ → Type 0
IsGrounded q n = NoPoint q (IsUngrounded q n)

-- a point is well grounded for n, said positively: some valuation makes its conditions true, and each state of a side in its related pairs is in the cut, and always meets it within n steps
pub record IsWellGroundedAt (q : Problem) (n : ℕ) (p : Point) : Type 0 where
  pub held : (v : Trees) × Holds q p v
  pub sides : (side : Side) → KeepsMeeting (StepsOf q side) (InCutOf q side) n (IsStateOf q p side)

-- the relation is well grounded for n: each point is. Stronger than "grounded", since that a run can't stay outside the cut doesn't show where it meets it
abbrev pub IsWellGrounded : Problem → ℕ → Type 0
IsWellGrounded q n = EachPoint q (IsWellGroundedAt q n)

-- the relation is a cut-simulation of the right by the left, up to undefined left states: no point has "right fails"
abbrev pub IsCutSimulation : Problem → Type 0
IsCutSimulation q = NoPoint q (RightFails q)

-- some state that one side of the point comes to has no partner, undefined states or not
abbrev pub SideMisses : Problem → Point → Type 0
SideMisses q p = RightMisses q p ⊎ LeftFails q p

-- it is a cut-bisimulation: no point has "right misses" or "left fails"
abbrev pub IsCutBisimulation : Problem → Type 0
IsCutBisimulation q = NoPoint q (SideMisses q)

-- each cut successor b' of the right state of a related pair has a partner: a cut successor a' of the left state with (a', b') in the relation
abbrev pub RightMatches : Problem → Point → Type 0
RightMatches q p =
    EachPair q p (λ a b. (b' : Tree) → SucceedsOf q right b b' → (a' : Tree) × SucceedsOf q left a a' × Related q a' b')

-- the same with the sides exchanged
abbrev pub LeftMatches : Problem → Point → Type 0
LeftMatches q p =
    EachPair q p (λ a b. (a' : Tree) → SucceedsOf q left a a' → (b' : Tree) × SucceedsOf q right b b' × Related q a' b')

-- each cut successor b' of the right state of a related pair has a partner, or the left state has an undefined cut successor
abbrev pub RightIsExcused : Problem → Point → Type 0
RightIsExcused q p =
    EachPair q p (λ a b. (b' : Tree) → SucceedsOf q right b b' → ((a' : Tree) × SucceedsOf q left a a' × Related q a' b') ⊎ ((a' : Tree) × SucceedsOf q left a a' × IsUndefined q a'))

-- a cut-simulation and a cut-bisimulation that name the partners: stronger, since that a partner can't be missing doesn't name one
abbrev pub IsMatchedSimulation : Problem → Type 0
IsMatchedSimulation q = EachPoint q (RightIsExcused q)

abbrev pub IsMatchedBisimulation : Problem → Type 0
IsMatchedBisimulation q = EachPoint q (RightMatches q) × EachPoint q (LeftMatches q)
