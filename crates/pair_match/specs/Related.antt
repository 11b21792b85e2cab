-- Steps of the way to where a point relates what two configurations mean.
use Rattle.std.specs.Prelude.{◌≡◌, ◌↔◌, true, List}
use Rattle.data_value.specs.declared.Value.{Value}
use Rattle.data_value.specs.Nodes.{Seen}
use Rattle.data_value.specs.Truth.{IsCondition, AreTrue, truth}
use Rattle.sort_term.specs.declared.term.Term.{Term}
use Rattle.sort_term.specs.declared.points.Point.{Point}
use Rattle.sort_term.specs.declared.rule.RuleExpr.{RuleExpr}
use Rattle.sort_term.specs.Tree.{Trees, value}
use Rattle.sort_term.specs.Cuts.{AllTrue}
use Rattle.sort_term.specs.NodeTerms.{tree_of}
use Rattle.unify.specs.Binds.{Bound, Agrees}
use Rattle.pair_match.specs.Bound.{AreAllBound}
use Rattle.pair_match.specs.Clash.{ClashSomewhere}

-- the point's terms clash with the configurations nowhere, and these determine its variables
pub record IsDetermined {N : Type 0} (p : Point) (a b : Term (Seen N)) (binds : Bound N) : Type 0 where
  pub left_clear : ¬ ClashSomewhere p.left a
  pub right_clear : ¬ ClashSomewhere p.right b
  pub bound : AreAllBound p.vars binds
  pub complete : (v : List Value) (w : Trees) → value w p.left ≡ tree_of v a → value w p.right ≡ tree_of v b → Agrees v binds w

-- a condition that is true exactly where the equations are, and the conditions under the valuations that give each bound variable the
-- tree that its term means
pub record IsTestOf {N : Type 0} (binds : Bound N) (equations : List (Seen N)) (whens : List RuleExpr) (s : Seen N) : Type 0 where
  pub condition : IsCondition s
  pub exact : (v : List Value) (w : Trees) → Agrees v binds w → (truth s v ≡ true) ↔ (AreTrue v equations × AllTrue w whens)
