-- When a point relates what two configurations mean.
use Rattle.std.specs.Prelude.{◌≡◌, ◌↔◌, ◌⊎◌, true, IsTrue, List, map, All}
use Rattle.data_value.specs.declared.DataSort.{DataSort}
use Rattle.data_value.specs.declared.Value.{Value}
use Rattle.data_value.specs.Nodes.{Seen, IsValuation}
use Rattle.data_value.specs.Truth.{IsCondition, truth}
use Rattle.sort_term.specs.declared.term.Sort.TheVariants.{Plain as PlainSort}
use Rattle.sort_term.specs.declared.term.Term.{Term}
use Rattle.sort_term.specs.declared.term.Term.TheVariants.{Plain}
use Rattle.sort_term.specs.declared.points.Point.{Point}
use Rattle.sort_term.specs.declared.problem.Problem.{Problem}
use Rattle.sort_term.specs.declared.rule.Var.{Var}
use Rattle.sort_term.specs.Tree.{Trees}
use Rattle.sort_term.specs.Relation.{Relates}
use Rattle.sort_term.specs.NodeTerms.{tree_of}
use Rattle.probe_keys.specs.Cases.{SeenPair, seen_pairs, AreMaps, AreSame}
use Rattle.pair_match.specs.declared.matching.Match.{Match}
use Rattle.pair_match.specs.declared.matching.Match.TheVariants.{Apart, When}
use Rattle.pair_match.specs.Clash.{ClashSomewhere}

-- one valid node for each variable, of its sort
pub record AreNodesOf {N : Type 0} (vars : List Var) (nodes : List (Seen N)) : Type 0 where
  pub valid : All (λ s. IsTrue s.valid) nodes
  pub sorted : map (λ s. PlainSort s.sort) nodes ≡ map (λ x. x.sort) vars

-- the valuation of a point that nodes mean where the domain's variables have the values v
abbrev pub trees_of : {N : Type 0} → List Value → List (Seen N) → Trees
trees_of v nodes = map (λ s. Plain (s.meaning v)) nodes

-- at some place of the point's terms a constructor stands against another, so the point relates them under no valuation
pub record AreApart {N : Type 0} (variables : List DataSort) (q : Problem) (p : Point) (a b : Term (Seen N)) : Type 0 where
  pub clash : ClashSomewhere p.left a ⊎ ClashSomewhere p.right b
  pub never : (v : List Value) → IsValuation variables v → (w : Trees) → ¬ Relates q p w (tree_of v a) (tree_of v b)

-- at no place a constructor stands against another, and the point relates them exactly where the test is true and the maps of each
-- pair are equal, under the valuation that the nodes mean and no other
pub record AreMatched {N : Type 0} (variables : List DataSort) (q : Problem) (p : Point) (a b : Term (Seen N)) (binds : List (Seen N)) (test : Seen N) (maps : List (SeenPair N)) : Type 0 where
  pub left_clear : ¬ ClashSomewhere p.left a
  pub right_clear : ¬ ClashSomewhere p.right b
  pub binds_sorted : AreNodesOf p.vars binds
  pub test_sorted : IsCondition test
  pub maps_sorted : All AreMaps maps
  pub exact : (v : List Value) → IsValuation variables v → (w : Trees) → Relates q p w (tree_of v a) (tree_of v b) ↔ ((w ≡ trees_of v binds) × (truth test v ≡ true) × All (AreSame v) maps)

-- what an answer of `matches` says
abbrev pub IsMatch : {N : Type 0} → List DataSort → Problem → Point → Term (Seen N) → Term (Seen N) → (N → Seen N) → Match N → Type 0
IsMatch variables q p a b look Apart = AreApart variables q p a b
IsMatch variables q p a b look (When binds test maps) = AreMatched variables q p a b (map look binds) (look test) (seen_pairs look maps)
