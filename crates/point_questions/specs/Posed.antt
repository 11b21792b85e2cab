-- A point over the variables of a domain.
use Rattle.std.specs.Prelude.{◌≡◌, ◌↔◌, ℕ, true, List, map, Some}
use Rattle.data_value.specs.declared.DataSort.{DataSort}
use Rattle.data_value.specs.declared.Value.{Value}
use Rattle.data_value.specs.Nodes.{Seen, IsValuation}
use Rattle.data_value.specs.Truth.{IsCondition, truth}
use Rattle.data_value.specs.Views.{value_at}
use Rattle.sort_term.specs.declared.term.Sort.TheVariants.{Plain as PlainSort}
use Rattle.sort_term.specs.declared.term.Term.{Term}
use Rattle.sort_term.specs.declared.term.Term.TheVariants.{Plain}
use Rattle.sort_term.specs.declared.points.Point.{Point}
use Rattle.sort_term.specs.declared.problem.Problem.{Problem}
use Rattle.sort_term.specs.declared.rule.Var.{Var}
use Rattle.sort_term.specs.Tree.{Tree, Trees}
use Rattle.sort_term.specs.Relation.{Relates}
use Rattle.sort_term.specs.NodeTerms.{seen_term, tree_of}
use Rattle.unify.specs.Binds.{Bound, bound_at}
use Rattle.unify.specs.Branches.{IsConfiguration}
use Rattle.pair_match.specs.Bound.{AreAllBound}
use Rattle.point_questions.specs.declared.posing.PosedPoint.{PosedPoint}

-- values as a valuation of a point's variables
abbrev pub trees : List Value → Trees
trees v = map Plain v

-- the variables of a domain are those of a point, in their order
abbrev pub AreOfVars : List Var → List DataSort → Type 0
AreOfVars vars variables = map PlainSort variables ≡ map (λ x. x.sort) vars

-- each variable is bound to the node that means the domain's variable with its index, and the domain has no others
pub record AreFresh {N : Type 0} (vars : List Var) (variables : List DataSort) (binds : Bound N) : Type 0 where
  pub sorts : AreOfVars vars variables
  pub bound : AreAllBound vars binds
  pub mean : (i : ℕ) (t : Term (Seen N)) → bound_at binds i ≡ Some t → (v : List Value) → tree_of v t ≡ Plain (value_at v i)

-- a condition and the configurations of both sides, with each node seen as all that it is
pub record SeenPosed (N : Type 0) : Type 0 where
  pub condition : Seen N
  pub left : Term (Seen N)
  pub right : Term (Seen N)

abbrev pub seen_posed : {N : Type 0} → (N → Seen N) → PosedPoint N → SeenPosed N
seen_posed look x = record { condition = look x.condition; left = seen_term look x.left.term; right = seen_term look x.right.term }

-- the condition is true where the variables have the values v, and the configurations then mean a and b
pub record MeansPair {N : Type 0} (variables : List DataSort) (x : SeenPosed N) (v : List Value) (a b : Tree) : Type 0 where
  pub fits : IsValuation variables v
  pub holds : truth x.condition v ≡ true
  pub left : tree_of v x.left ≡ a
  pub right : tree_of v x.right ≡ b

-- the point over these variables: it relates a and b under w exactly where w is what fitting values are that make the condition true and
-- under which the configurations mean a and b
pub record IsPosed {N : Type 0} (variables : List DataSort) (q : Problem) (p : Point) (x : SeenPosed N) : Type 0 where
  pub sorts : AreOfVars p.vars variables
  pub condition : IsCondition x.condition
  pub left : IsConfiguration q.left x.left
  pub right : IsConfiguration q.right x.right
  pub exact : (w : Trees) (a b : Tree) → Relates q p w a b ↔ ((v : List Value) × (w ≡ trees v) × MeansPair variables x v a b)
