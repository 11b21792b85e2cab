-- Points with both sides searched.
use Rattle.std.specs.Prelude.{◌≡◌, ℕ, List, All}
use Rattle.data_value.specs.declared.DataSort.{DataSort}
use Rattle.data_value.specs.declared.Value.{Value}
use Rattle.data_value.specs.Nodes.{Seen, IsValuation}
use Rattle.sort_term.specs.declared.points.Cut.{Cut}
use Rattle.sort_term.specs.declared.points.Point.{Point}
use Rattle.sort_term.specs.declared.problem.Problem.{Problem}
use Rattle.sort_term.specs.declared.term.Term.{Term}
use Rattle.sort_term.specs.System.{System}
use Rattle.sort_term.specs.Step.{Tables, StepsBy}
use Rattle.sort_term.specs.Cuts.{InCut}
use Rattle.sort_term.specs.Relation.{IsPoint}
use Rattle.path_condition.specs.Leaves.{IsLeaf}
use Rattle.point_questions.specs.Posed.{SeenPosed, IsPosed}
use Rattle.point_questions.specs.Questions.{SeenSide, SeenPoint, posed_of}
use Rattle.point_questions.specs.Lists.{IsOver}
use Rattle.point_questions.specs.QuestionLaws.{IsSearchedAt, IsSearched}

-- the leaves of a side are leaves of its semantics
pub record HasLeaves {N : Type 0} (sys : System) (x : SeenSide N) : Type 0 where
  pub met : All (IsLeaf sys) x.met
  pub long : All (IsLeaf sys) x.long
  pub halted : All (IsLeaf sys) x.halted

-- a side that is searched up to n steps from what a configuration means, where a condition is true
pub record IsExploredSide {S N : Type 0} (sys : System) (tables : Tables) (cuts : List (Cut S)) (n : ℕ) (variables : List DataSort) (condition : Seen N) (start : Term (Seen N)) (x : SeenSide N) : Type 0 where
  pub from : x.start ≡ start
  pub leaves : HasLeaves sys x
  pub found : (v : List Value) → IsValuation variables v → IsSearchedAt (StepsBy sys tables) (InCut sys.cons cuts) n condition x v

-- both sides of a point are searched
pub record AreExplored {N : Type 0} (q : Problem) (n : ℕ) (variables : List DataSort) (posed : SeenPosed N) (x : SeenPoint N) : Type 0 where
  pub from : posed_of x ≡ posed
  pub left : HasLeaves q.left x.left
  pub right : HasLeaves q.right x.right
  pub searched : IsSearched q n variables x

-- the point with the number k, over the first of the variables that there are now, with both sides searched
pub record IsExplored {N : Type 0} (q : Problem) (n k : ℕ) (now : List DataSort) (x : SeenPoint N) : Type 0 where
  pub point : Point
  pub there : IsPoint q k point
  pub variables : List DataSort
  pub posed : IsPosed variables q point (posed_of x)
  pub left : HasLeaves q.left x.left
  pub right : HasLeaves q.right x.right
  pub searched : IsSearched q n variables x
  pub over : IsOver variables now x
