-- Valuations with values of further variables behind them.
use Rattle.std.proofs.Common.{◌≡◌, ◌↔◌, ◌<◌, false, IsTrue, List, [], ◌++◌, length, sym, ap, ◌∙◌, subst}
use Rattle.std.proofs.lemmas.List.{get_or_append_left, length-map, append-nil, append_assoc}
use Rattle.data_value.specs.declared.DataSort.{DataSort}
use Rattle.data_value.specs.declared.Scalar.TheVariants.{Flag}
use Rattle.data_value.specs.declared.Value.{Value}
use Rattle.data_value.specs.declared.Value.TheVariants.{One}
use Rattle.data_value.specs.Values.{flag_of, scalar_of, value_sort}
use Rattle.data_value.specs.Nodes.{Seen, IsValuation}
use Rattle.data_value.specs.Truth.{truth}
use Rattle.data_value.specs.Views.{AgreeBelow, BeginsWith, IsViewed}
use Rattle.data_value.proofs.NodeLemmas.{depends}

-- a node means the same whatever stands behind a valuation of these variables
pub record IsSettled {N : Type 0} (variables : List DataSort) (s : Seen N) : Type 0 where
  pub same : (v w : List Value) → IsValuation variables v → s.meaning (v ++ w) ≡ s.meaning v

-- what holds of a valuation of these variables holds whatever stands behind it
pub record Stays (variables : List DataSort) (P : List Value → Type 0) : Type 0 where
  pub longer : (v w : List Value) → IsValuation variables v → P (v ++ w) ↔ P v

-- a valuation has a value for each variable
pub valuation_long : (variables : List DataSort) (v : List Value) → IsValuation variables v → length v ≡ length variables
valuation_long variables v fits = sym (length-map v value_sort) ∙ ap length fits.sorted

-- a valuation agrees with itself whatever stands behind it
agrees_in_front : (variables : List DataSort) (v w : List Value) → IsValuation variables v → AgreeBelow (length variables) (v ++ w) v
agrees_in_front variables v w fits = record {
  at = λ i l. get_or_append_left v w (One (Flag false)) i (subst (λ n. i < n) (sym (valuation_long variables v fits)) l);
}

-- the nodes of a domain don't depend on variables that come later
pub settled : {N : Type 0} (look : N → Seen N) (variables : List DataSort) → IsViewed look variables → (n : N) → IsTrue (look n).valid → IsSettled variables (look n)
settled look variables views n ok = record { same = λ v w fits. depends look variables views.shows n ok (v ++ w) v (agrees_in_front variables v w fits) }

-- a condition is as true as it was
pub settled_truth : {N : Type 0} (variables : List DataSort) (s : Seen N) → IsSettled variables s → (v w : List Value) → IsValuation variables v → truth s (v ++ w) ≡ truth s v
settled_truth variables s is v w fits = ap (λ m. flag_of (scalar_of m)) (is.same v w fits)

-- a list that begins with one that begins with a third begins with the third
pub begins_both : {X : Type 0} (xs ys zs : List X) → BeginsWith ys xs → BeginsWith zs ys → BeginsWith zs xs
begins_both xs ys zs b c = (b.0 ++ c.0, c.1 ∙ ap (λ front. front ++ c.0) b.1 ∙ append_assoc xs b.0 c.0)

pub begins_same : {X : Type 0} (xs ys : List X) → ys ≡ xs → BeginsWith ys xs
begins_same xs ys e = ([], e ∙ sym (append-nil xs))
