-- What is asked of a point.
use Rattle.std.specs.Prelude.{◌≡◌, ℕ, ◌≤◌, List, [], map, slice_get, Option, Some, IsSome, All, Any, AllPairs, ⊤}
use Rattle.data_value.specs.declared.DataSort.{DataSort}
use Rattle.data_value.specs.declared.Value.{Value}
use Rattle.data_value.specs.Nodes.{Seen}
use Rattle.data_value.specs.Truth.{truth}
use Rattle.sort_term.specs.declared.term.Term.{Term}
use Rattle.sort_term.specs.declared.problem.Problem.{Problem}
use Rattle.sort_term.specs.Relation.{Side, left, right, InCutOf}
use Rattle.sort_term.specs.NodeTerms.{seen_term, tree_of}
use Rattle.path_condition.specs.Leaves.{SeenLeaf, seen_leaves}
use Rattle.probe_keys.specs.Probed.{IsProbed}
use Rattle.pair_match.specs.Unmatched.{HasLeftPartner, HasRightPartner, IsExcused}
use Rattle.ground_step.specs.declared.verdict.SideName.{SideName}
use Rattle.ground_step.specs.Shows.{side_of}
use Rattle.ground_step.specs.declared.verdict.SideName.TheVariants as side
use Rattle.point_questions.specs.declared.question.Flaw.{Flaw}
use Rattle.point_questions.specs.declared.question.Flaw.TheVariants.{Outside, Long, Halted, RightFails, RightMisses, LeftFails}
use Rattle.point_questions.specs.declared.question.Question.{Question}
use Rattle.point_questions.specs.declared.searched.SearchedPoint.{SearchedPoint}
use Rattle.point_questions.specs.declared.searched.SearchedSide.{SearchedSide}
use Rattle.point_questions.specs.Posed.{SeenPosed}

-- the side of the run of a flaw
abbrev pub flaw_side : Flaw → Side
flaw_side (Outside s) = side_of s
flaw_side (Long s i) = side_of s
flaw_side (Halted s i) = side_of s
flaw_side (RightFails i) = right
flaw_side (RightMisses i) = right
flaw_side (LeftFails i) = left

-- the place of a flaw in the order of the verdict
abbrev pub flaw_rank : Flaw → ℕ
flaw_rank (Outside side.Left) = 1
flaw_rank (Outside side.Right) = 2
flaw_rank (Long side.Left i) = 3
flaw_rank (Long side.Right i) = 4
flaw_rank (Halted side.Left i) = 5
flaw_rank (Halted side.Right i) = 6
flaw_rank (RightFails i) = 7
flaw_rank (RightMisses i) = 8
flaw_rank (LeftFails i) = 9

-- a configuration and the leaves of a search from it, and a point with both of its sides searched, with each node seen as all that it is
pub record SeenSide (N : Type 0) : Type 0 where
  pub start : Term (Seen N)
  pub met : List (SeenLeaf N)
  pub long : List (SeenLeaf N)
  pub halted : List (SeenLeaf N)

pub record SeenPoint (N : Type 0) : Type 0 where
  pub condition : Seen N
  pub left : SeenSide N
  pub right : SeenSide N

abbrev pub seen_side : {S N : Type 0} → (N → Seen N) → SearchedSide S N → SeenSide N
seen_side look x = record { start = seen_term look x.start.term; met = seen_leaves look x.met; long = seen_leaves look x.long; halted = seen_leaves look x.halted }

abbrev pub seen_point : {N : Type 0} → (N → Seen N) → SearchedPoint N → SeenPoint N
seen_point look x = record { condition = look x.condition; left = seen_side look x.left; right = seen_side look x.right }

-- the configurations of a searched point
abbrev pub posed_of : {N : Type 0} → SeenPoint N → SeenPosed N
posed_of x = record { condition = x.condition; left = x.left.start; right = x.right.start }

-- a configuration that isn't searched yet, and a point of such
abbrev pub unsearched_side : {N : Type 0} → Term (Seen N) → SeenSide N
unsearched_side start = record { start = start; met = []; long = []; halted = [] }

abbrev pub unsearched : {N : Type 0} → SeenPosed N → SeenPoint N
unsearched x = record { condition = x.condition; left = unsearched_side x.left; right = unsearched_side x.right }

-- one side of a searched point
abbrev pub searched_side : {N : Type 0} → SeenPoint N → SideName → SeenSide N
searched_side x side.Left = x.left
searched_side x side.Right = x.right

-- the leaf that a flaw speaks of: its run, where it holds, is the one that shows the flaw. The run of no step from the configuration stands for "outside"
abbrev pub leaf_of : {N : Type 0} → SeenPoint N → Flaw → Option (SeenLeaf N)
leaf_of x (Outside s) = Some (record { condition = x.condition; state = (searched_side x s).start; rules = [] })
leaf_of x (Long s i) = slice_get (searched_side x s).long i
leaf_of x (Halted s i) = slice_get (searched_side x s).halted i
leaf_of x (RightFails i) = slice_get x.right.met i
leaf_of x (RightMisses i) = slice_get x.right.met i
leaf_of x (LeftFails i) = slice_get x.left.met i

-- what keeps a leaf that holds from showing the flaw
abbrev pub Clears : {N : Type 0} → Problem → SeenPoint N → Flaw → SeenLeaf N → List Value → Type 0
Clears q x (Outside s) l v = InCutOf q (side_of s) (tree_of v l.state)
Clears q x (Long s i) l v = ⊥
Clears q x (Halted s i) l v = ⊥
Clears q x (RightFails i) l v = IsExcused q l x.left.met v
Clears q x (RightMisses i) l v = HasLeftPartner q l x.left.met v
Clears q x (LeftFails i) l v = HasRightPartner q l x.right.met v

-- s, over the variables `now` of which the point's were the first, asks for a flaw: it says that the flaw's leaf holds and nothing clears it
pub record IsQuestion {N : Type 0} (q : Problem) (variables now : List DataSort) (x : SeenPoint N) (flaw : Flaw) (s : Seen N) : Type 0 where
  pub leaf : SeenLeaf N
  pub there : leaf_of x flaw ≡ Some leaf
  pub asks : IsProbed variables now (truth leaf.condition) (Clears q x flaw leaf) s

-- a question, with its formula seen as all that it is
pub record SeenQuestion (N : Type 0) : Type 0 where
  pub flaw : Flaw
  pub formula : Seen N

abbrev pub seen_questions : {N : Type 0} → (N → Seen N) → List (Question N) → List (SeenQuestion N)
seen_questions look questions = map (λ y. record { flaw = y.flaw; formula = look y.formula }) questions

-- the flaws of some kinds
abbrev pub IsOutsideFlaw : Flaw → Type 0
IsOutsideFlaw (Outside s) = ⊤
IsOutsideFlaw _ = ⊥

abbrev pub IsRunFlaw : Flaw → Type 0
IsRunFlaw (Long s i) = ⊤
IsRunFlaw (Halted s i) = ⊤
IsRunFlaw _ = ⊥

abbrev pub IsRightFailure : Flaw → Type 0
IsRightFailure (RightFails i) = ⊤
IsRightFailure _ = ⊥

abbrev pub IsRightMiss : Flaw → Type 0
IsRightMiss (RightMisses i) = ⊤
IsRightMiss _ = ⊥

abbrev pub IsLeftFailure : Flaw → Type 0
IsLeftFailure (LeftFails i) = ⊤
IsLeftFailure _ = ⊥

-- the questions ask for the flaws of a kind, all that there are, in the order of the verdict
pub record AreQuestions {N : Type 0} (Of : Flaw → Type 0) (q : Problem) (variables now : List DataSort) (x : SeenPoint N) (questions : List (SeenQuestion N)) : Type 0 where
  pub each : All (λ y. Of y.flaw × IsQuestion q variables now x y.flaw y.formula) questions
  pub all : (flaw : Flaw) → Of flaw → IsSome (leaf_of x flaw) → Any (λ y. y.flaw ≡ flaw) questions
  pub ordered : AllPairs (λ y z. flaw_rank y.flaw ≤ flaw_rank z.flaw) questions
