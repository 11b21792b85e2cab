-- Flaws that values show.
use Rattle.std.specs.Prelude.{◌≡◌, ℕ, List, length, map, take, slice_get, option_map, Option, Some, None}
use Rattle.data_value.specs.declared.Value.{Value}
use Rattle.sort_term.specs.declared.ids.RuleId.{RuleId}
use Rattle.sort_term.specs.declared.points.Point.{Point}
use Rattle.sort_term.specs.declared.problem.Problem.{Problem}
use Rattle.sort_term.specs.Tree.{Tree}
use Rattle.sort_term.specs.Relation.{IsPoint, Relates}
use Rattle.path_condition.specs.declared.leaf.Leaf.{Leaf}
use Rattle.ground_step.specs.declared.verdict.Failure.{Failure}
use Rattle.ground_step.specs.declared.verdict.SideName.TheVariants as side
use Rattle.ground_step.specs.declared.verdict.Verdict.{Verdict}
use Rattle.ground_step.specs.declared.verdict.Verdict.TheVariants as verdict
use Rattle.ground_step.specs.Fit.{plain_trees}
use Rattle.point_questions.specs.declared.question.Flaw.{Flaw}
use Rattle.point_questions.specs.declared.question.Flaw.TheVariants.{Outside, Long, Halted, RightFails, RightMisses, LeftFails}
use Rattle.point_questions.specs.declared.searched.SearchedPoint.{SearchedPoint}
use Rattle.point_questions.specs.QuestionLaws.{IsFlaw}
use Rattle.verdict.specs.declared.deciding.FoundFlaw.{FoundFlaw}

-- under the first of the values, one for each variable of the point with the number k, the point relates two states, and a run by the
-- rules shows the flaw of them
pub record IsShownAt (q : Problem) (n k : ℕ) (flaw : Flaw) (values : List Value) (rules : List ℕ) : Type 0 where
  pub point : Point
  pub there : IsPoint q k point
  pub left : Tree
  pub right : Tree
  pub last : Tree
  pub pair : Relates q point (plain_trees (take (length point.vars) values)) left right
  pub shown : IsFlaw q n flaw left right rules last

-- the rules of the leaf at a place
abbrev pub rules_in : {S N : Type 0} → List (Leaf S N) → ℕ → Option (List RuleId)
rules_in leaves i = option_map (λ l. l.rules) (slice_get leaves i)

-- the rules of a flaw's leaf, none for "outside"
abbrev pub rules_there : {N : Type 0} → SearchedPoint N → Flaw → Option (List RuleId)
rules_there x (Outside s) = None
rules_there x (Long side.Left i) = rules_in x.left.long i
rules_there x (Long side.Right i) = rules_in x.right.long i
rules_there x (Halted side.Left i) = rules_in x.left.halted i
rules_there x (Halted side.Right i) = rules_in x.right.halted i
rules_there x (RightFails i) = rules_in x.right.met i
rules_there x (RightMisses i) = rules_in x.right.met i
rules_there x (LeftFails i) = rules_in x.left.met i

-- so it is by the rules of the flaw's leaf
abbrev pub IsShownByLeaf : {N : Type 0} → Problem → ℕ → ℕ → SearchedPoint N → FoundFlaw → Type 0
IsShownByLeaf q n k x found = (rules : List RuleId) × (rules_there x found.flaw ≡ Some rules) × IsShownAt q n k found.flaw found.values (map (λ r. r.0) rules)

-- the verdict that a flaw gives with its failure
abbrev pub verdict_by : Flaw → Failure → Verdict
verdict_by (Outside s) f = verdict.Outside f
verdict_by (Long s i) f = verdict.Long f
verdict_by (Halted s i) f = verdict.Halted f
verdict_by (RightFails i) f = verdict.Unmatched f
verdict_by (RightMisses i) f = verdict.Refines f
verdict_by (LeftFails i) f = verdict.Refines f
