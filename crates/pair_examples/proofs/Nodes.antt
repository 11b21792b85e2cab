-- The nodes of what `matches` answers.
use Rattle.std.proofs.Common.{ℕ, IsTrue, ◌<◌, ◌⊎◌, inl, inr, arith, List, length, map, All, Some, None, slice_get}
use Rattle.std.proofs.lemmas.Option.{slice_get_cases}
use Rattle.std.proofs.lemmas.List.Elements.{All-weaker}
use Rattle.data_value.specs.declared.DataSort.{DataSort}
use Rattle.data_value.specs.Nodes.{Seen}
use Rattle.sort_term.specs.declared.term.Term.{Term}
use Rattle.sort_term.specs.declared.points.Point.{Point}
use Rattle.sort_term.specs.declared.problem.Problem.{Problem}
use Rattle.sort_term.specs.Relation.{IsPoint}
use Rattle.unify.proofs.Lists.{all_mapped}
use Rattle.probe_keys.specs.Cases.{AreMaps, seen_pair}
use Rattle.pair_match.specs.declared.matching.Match.{Match}
use Rattle.pair_match.specs.declared.matching.Match.TheVariants.{Apart, When}
use Rattle.pair_match.specs.Matches.{IsMatch}
use Rattle.pair_examples.specs.Matched.{IsPairOfNodes, IsOfNodes}

module _ {N : Type 0} (variables : List DataSort) (q : Problem) (look : N → Seen N) (a b : Term (Seen N)) where
  -- what stands in the answer for a point are nodes
  nodes_of : (p : Point) (m : Match N) → IsMatch variables q p a b look m → IsOfNodes look m
  nodes_of p Apart h = tt
  nodes_of p (When binds test maps) h =
      (all_mapped (λ s. IsTrue s.valid) look binds h.binds_sorted.valid, h.test_sorted.valid, All-weaker (λ pair. AreMaps (seen_pair look pair)) (IsPairOfNodes look) (λ pair is. record { left = is.left_valid; right = is.right_valid }) maps (all_mapped AreMaps (seen_pair look) maps h.maps_sorted))

  -- a point that there is has such an answer
  pub of_nodes : (k : ℕ) (m : Match N) → k < length q.points.points → ((p : Point) → IsPoint q k p → IsMatch variables q p a b look m) → IsOfNodes look m
  of_nodes k m lt h =
      elim ((slice_get_cases q.points.points k).1) [
        | inl there ↦ nodes_of there.0 m (h there.0 there.2)
        | inr past ↦ absurd (omega (arith, lt, past.0))
      ]
