-- Leaves with a property, one leaf at a time. The property of a state is a parameter, so that both sides stand on this.
use Rattle.std.proofs.Common.{◌≡◌, ◌↔◌, ◌⊎◌, inl, inr, ℕ, ◌+◌, ◌<◌, true, List, length, take, get_or, All}
use Rattle.data_value.specs.declared.DataSort.{DataSort}
use Rattle.data_value.specs.declared.Value.{Value}
use Rattle.data_value.specs.Nodes.{Seen}
use Rattle.data_value.specs.Truth.{truth}
use Rattle.sort_term.specs.Tree.{Tree}
use Rattle.sort_term.specs.NodeTerms.{seen_term, tree_of}
use Rattle.unify.proofs.Anys.{any_none, any_weaker}
use Rattle.path_condition.specs.declared.leaf.Leaf.{Leaf}
use Rattle.path_condition.specs.Leaves.{SeenLeaf, seen_leaf, seen_leaves}
use Rattle.probe_keys.specs.Cases.{SeenCase, IsCase}
use Rattle.probe_keys.proofs.Turns.{any_more}
use Rattle.pair_match.specs.MoreCases.{AreMoreCases}
use Rattle.pair_match.specs.Unmatched.{SomeHolds}
use Rattle.pair_match.proofs.Adding.{more_same, more_none, more_then}

module _ {S N : Type 0} (variables : List DataSort) (look : N → Seen N) (P : List Value → Tree → Type 0) (others : List (Leaf S N)) (old : List (SeenCase N)) where
  -- none of no leaves has it
  pub leaves_none : All IsCase old → AreMoreCases variables (λ v. SomeHolds v (P v) (seen_leaves look (take 0 others))) old old
  leaves_none all = more_none variables (λ v. SomeHolds v (P v) (seen_leaves look (take 0 others))) old all (λ v fits. λ a. any_none (λ (l : SeenLeaf N). (truth l.condition v ≡ true) × P v (tree_of v l.state)) a)

  -- one leaf more
  pub leaves_more : (i : ℕ) (l : Leaf S N) → i < length others → l ≡ get_or others i l → (middle new : List (SeenCase N)) →
      AreMoreCases variables (λ v. SomeHolds v (P v) (seen_leaves look (take i others))) old middle →
      AreMoreCases variables (λ v. (truth (look l.condition) v ≡ true) × P v (tree_of v (seen_term look l.config.term))) middle new →
      AreMoreCases variables (λ v. SomeHolds v (P v) (seen_leaves look (take (i + 1) others))) old new
  leaves_more i l within is middle new so_far here =
      let Before : List Value → Type 0 = λ v. SomeHolds v (P v) (seen_leaves look (take i others)) in
      let Here : List Value → Type 0 = λ v. (truth (look l.condition) v ≡ true) × P v (tree_of v (seen_term look l.config.term)) in
      more_same variables (λ v. Before v ⊎ Here v) (λ v. SomeHolds v (P v) (seen_leaves look (take (i + 1) others))) old new
      (λ v fits.
      let turn = any_more (λ (x : SeenLeaf N). (truth x.condition v ≡ true) × P v (tree_of v x.state)) (seen_leaf look) others i l within is in
      (turn.1, turn.0))
      (more_then variables Before Here old middle new so_far here)

-- some leaf has one of two properties where some leaf has the one or some leaf the other
pub either_holds : {N : Type 0} (v : List Value) (P Q : Tree → Type 0) (leaves : List (SeenLeaf N)) → (SomeHolds v P leaves ⊎ SomeHolds v Q leaves) ↔ SomeHolds v (λ t. P t ⊎ Q t) leaves
either_holds {N} v P Q leaves = (to, from)
  where
    to : SomeHolds v P leaves ⊎ SomeHolds v Q leaves → SomeHolds v (λ t. P t ⊎ Q t) leaves
    to (inl a) = any_weaker (λ (l : SeenLeaf N). (truth l.condition v ≡ true) × P (tree_of v l.state)) (λ (l : SeenLeaf N). (truth l.condition v ≡ true) × (P (tree_of v l.state) ⊎ Q (tree_of v l.state))) leaves (λ l h. (h.0, inl h.1)) a
    to (inr a) = any_weaker (λ (l : SeenLeaf N). (truth l.condition v ≡ true) × Q (tree_of v l.state)) (λ (l : SeenLeaf N). (truth l.condition v ≡ true) × (P (tree_of v l.state) ⊎ Q (tree_of v l.state))) leaves (λ l h. (h.0, inr h.1)) a

    from : SomeHolds v (λ t. P t ⊎ Q t) leaves → SomeHolds v P leaves ⊎ SomeHolds v Q leaves
    from a = elim (a.4.1) [ inl p ↦ inl (a.0, a.1, a.2, a.3, (a.4.0, p)) | inr q ↦ inr (a.0, a.1, a.2, a.3, (a.4.0, q)) ]
