-- The relation of the points, and what can be wrong with a point.
use Rattle.std.specs.Prelude.{◌≡◌, ℕ, [], slice_get, Some}
use Rattle.std.specs.List.{Any}
use Rattle.sort_term.specs.declared.points.Cut.{Cut}
use Rattle.sort_term.specs.declared.points.Point.{Point}
use Rattle.sort_term.specs.declared.term.Left.{Left}
use Rattle.sort_term.specs.declared.problem.Problem.{Problem}
use Rattle.sort_term.specs.Tree.{Tree, Trees, value}
use Rattle.sort_term.specs.Sorted.{IsValuationOf}
use Rattle.sort_term.specs.Step.{StepsBy}
use Rattle.sort_term.specs.Runs.{Succeeds}
use Rattle.sort_term.specs.StateSets.{IsVoid, IsOutside, RunsLong, Halts}
use Rattle.sort_term.specs.Cuts.{AllTrue, InCut, IsCovered}

-- p is the point of the problem with the number k, counted from 0 in the order of the text
abbrev pub IsPoint : Problem → ℕ → Point → Type 0
IsPoint q k p = slice_get q.points.points k ≡ Some p

-- v gives each variable of the point a value of its sort, and makes the conditions true; the variables' sorts are data sorts, so no constructor is asked for
pub record Holds (q : Problem) (p : Point) (v : Trees) : Type 0 where
  pub fits : IsValuationOf [] p.vars v
  pub whens : AllTrue v p.whens

-- (a, b) is a related pair of p under v
pub record Relates (q : Problem) (p : Point) (v : Trees) (a b : Tree) : Type 0 where
  pub holds : Holds q p v
  pub left : value v p.left ≡ a
  pub right : value v p.right ≡ b

-- the relation: (a, b) is a related pair of some point
pub record Related (q : Problem) (a b : Tree) : Type 0 where
  pub place : ℕ
  pub point : Point
  pub there : IsPoint q place point
  pub valuation : Trees
  pub relates : Relates q point valuation a b

-- some related pair of p has the property, and each has it
abbrev pub SomePair : Problem → Point → (Tree → Tree → Type 0) → Type 0
SomePair q p P = (v : Trees) × (a : Tree) × (b : Tree) × Relates q p v a b × P a b

abbrev pub EachPair : Problem → Point → (Tree → Tree → Type 0) → Type 0
EachPair q p P = (v : Trees) (a b : Tree) → Relates q p v a b → P a b

pub data Side : Type 0 where
  left : Side
  right : Side

-- the state of one side of a pair
abbrev pub of_side : Side → Tree → Tree → Tree
of_side left a b = a
of_side right a b = b

-- the steps of a side, its cut, and its cut successors
abbrev pub StepsOf : Problem → Side → ℕ → Tree → Tree → Type 0
StepsOf q left = StepsBy q.left q.left_program
StepsOf q right = StepsBy q.right q.right_program

abbrev pub InCutOf : Problem → Side → Tree → Type 0
InCutOf q left = InCut q.left.cons q.points.left_cuts
InCutOf q right = InCut q.right.cons q.points.right_cuts

-- undefined: some undefined item of the left cut covers the left state s
abbrev pub IsUndefined : Problem → Tree → Type 0
IsUndefined q s = Any (λ k. (item : Cut Left) × (slice_get q.points.left_cuts k ≡ Some item) × IsCovered q.left.cons item s) q.points.undefs

abbrev pub SucceedsOf : Problem → Side → Tree → Tree → Type 0
SucceedsOf q side = Succeeds (StepsOf q side) (InCutOf q side)

-- the states of a side in the related pairs of p
pub record IsStateOf (q : Problem) (p : Point) (side : Side) (s : Tree) : Type 0 where
  pub valuation : Trees
  pub left_state : Tree
  pub right_state : Tree
  pub relates : Relates q p valuation left_state right_state
  pub is : of_side side left_state right_state ≡ s

-- void: no valuation makes the conditions true
abbrev pub Void : Problem → Point → Type 0
Void q p = IsVoid (Holds q p)

-- outside: the side's state of some related pair isn't in its cut
abbrev pub Outside : Problem → Point → Side → Type 0
Outside q p side = IsOutside (InCutOf q side) (IsStateOf q p side)

-- long: from the side's state of some related pair there is a run of n steps whose later states all lie outside the cut
abbrev pub Long : Problem → ℕ → Point → Side → Type 0
Long q n p side = RunsLong (StepsOf q side) (InCutOf q side) n (IsStateOf q p side)

-- halted: from the side's state of some related pair a run of at least one step ends in a state without a step, and its later states all lie outside the cut
abbrev pub Halted : Problem → Point → Side → Type 0
Halted q p side = Halts (StepsOf q side) (InCutOf q side) (IsStateOf q p side)

-- right misses: some related pair (a, b) and some cut successor b' of b have no cut successor a' of a with (a', b') in the relation
abbrev pub RightMisses : Problem → Point → Type 0
RightMisses q p =
    SomePair q p (λ a b. (b' : Tree) × SucceedsOf q right b b' × ((a' : Tree) → SucceedsOf q left a a' → ¬ Related q a' b'))

-- right fails: moreover no cut successor of a is undefined, since the right may do anything where the left may come to an undefined state
abbrev pub RightFails : Problem → Point → Type 0
RightFails q p =
    SomePair q p (λ a b. (b' : Tree) × SucceedsOf q right b b' × ((a' : Tree) → SucceedsOf q left a a' → ¬ Related q a' b') × ((a' : Tree) → SucceedsOf q left a a' → ¬ IsUndefined q a'))

-- left fails: some related pair (a, b) and some cut successor a' of a have no cut successor b' of b with (a', b') in the relation
abbrev pub LeftFails : Problem → Point → Type 0
LeftFails q p =
    SomePair q p (λ a b. (a' : Tree) × SucceedsOf q left a a' × ((b' : Tree) → SucceedsOf q right b b' → ¬ Related q a' b'))
