-- What points relate, one point at a time.
use Rattle.std.proofs.Common.{arith, ◌≡◌, ◌↔◌, ◌⊎◌, inl, inr, ℕ, ◌+◌, ◌<◌, ◌≤◌, true, List, length, slice_get, Some, All, refl, sym, ◌∙◌, subst}
use Rattle.std.proofs.lemmas.Bool.{cases_lt}
use Rattle.std.proofs.lemmas.Option.{same_Some, slice_get_cases, slice_get_within}
use Rattle.data_value.specs.declared.DataSort.{DataSort}
use Rattle.data_value.specs.declared.Value.{Value}
use Rattle.data_value.specs.Nodes.{Seen, IsValuation}
use Rattle.data_value.specs.Truth.{truth}
use Rattle.sort_term.specs.declared.points.Point.{Point}
use Rattle.sort_term.specs.declared.problem.Problem.{Problem}
use Rattle.sort_term.specs.declared.term.Term.{Term}
use Rattle.sort_term.specs.Tree.{Tree}
use Rattle.sort_term.specs.Relation.{IsPoint, Relates, Related}
use Rattle.sort_term.specs.NodeTerms.{tree_of}
use Rattle.probe_keys.specs.Cases.{SeenPair, AreSame}
use Rattle.pair_match.specs.Matches.{AreApart, AreMatched, trees_of}
use Rattle.pair_match.specs.MoreCases.{RelatedBy}

-- a number below the count of items is that of an item
pub item_there : {X : Type 0} (xs : List X) (i : ℕ) → i < length xs → (x : X) × (slice_get xs i ≡ Some x)
item_there xs i l = elim ((slice_get_cases xs i).1) [ inl r ↦ (r.0, r.2) | inr r ↦ absurd (let past = r.0 in omega arith) ]

-- a condition beside each of two facts
pub beside_either : (C A B D : Type 0) → ((A ⊎ B) ↔ D) → ((C × A) ⊎ (C × B)) ↔ (C × D)
beside_either C A B D e = (to, λ h. elim (e.1 h.1) [ inl a ↦ inl (h.0, a) | inr b ↦ inr (h.0, b) ])
  where
    to : (C × A) ⊎ (C × B) → C × D
    to (inl h) = (h.0, e.0 (inl h.1))
    to (inr h) = (h.0, e.0 (inr h.1))

-- some point with a number below n relates two states
abbrev pub RelatedBelow : Problem → ℕ → Tree → Tree → Type 0
RelatedBelow q n a b = (k : ℕ) × (k < n) × RelatedBy q k a b

module _ (q : Problem) (a b : Tree) where
  pub below_none : RelatedBelow q 0 a b → ⊥
  below_none r = let l = r.1 in omega arith

  pub below_more : (n : ℕ) → (RelatedBelow q n a b ⊎ RelatedBy q n a b) ↔ RelatedBelow q (n + 1) a b
  below_more n = (to, λ r. from r.0 r.1 r.2)
    where
      to : RelatedBelow q n a b ⊎ RelatedBy q n a b → RelatedBelow q (n + 1) a b
      to (inl r) = let l = r.1 in (r.0, omega arith, r.2)
      to (inr r) = (n, omega arith, r)

      from : (k : ℕ) → k < n + 1 → RelatedBy q k a b → RelatedBelow q n a b ⊎ RelatedBy q n a b
      from k l r = go (cases_lt k n)
        where
          go : (k < n) ⊎ (n ≤ k) → RelatedBelow q n a b ⊎ RelatedBy q n a b
          go (inl less) = inl (k, less, r)
          go (inr more) = let same : k ≡ n = omega arith in inr (subst (λ j. RelatedBy q j a b) same r)

  -- some of all points relates them
  pub below_all : (n : ℕ) → length q.points.points ≤ n → RelatedBelow q n a b ↔ Related q a b
  below_all n all = (
    λ r. record { place = r.0; point = r.2.0; there = r.2.2; valuation = r.2.1; relates = r.2.3 },
    λ r. let within = slice_get_within q.points.points r.place r.point r.there in (r.place, omega arith, (r.point, r.valuation, r.there, r.relates)),
  )

module _ {N : Type 0} (variables : List DataSort) (q : Problem) (k : ℕ) (p : Point) (is : IsPoint q k p) (a b : Term (Seen N)) where
  -- what a point relates it relates as the point that it is
  by_point : (v : List Value) (r : RelatedBy q k (tree_of v a) (tree_of v b)) → Relates q p r.1 (tree_of v a) (tree_of v b)
  by_point v r = let same : r.0 ≡ p = same_Some r.0 p (sym r.2 ∙ is) in subst (λ x. Relates q x r.1 (tree_of v a) (tree_of v b)) same r.3

  -- a point that stands apart relates nothing
  pub apart_never : AreApart variables q p a b → (v : List Value) → IsValuation variables v → ¬ RelatedBy q k (tree_of v a) (tree_of v b)
  apart_never apart v fits = λ r. apart.never v fits r.1 (by_point v r)

  -- the test and the maps say where the point relates the states
  pub matched_exact : (binds : List (Seen N)) (test : Seen N) (maps : List (SeenPair N)) → AreMatched variables q p a b binds test maps → (v : List Value) → IsValuation variables v → ((truth test v ≡ true) × All (AreSame v) maps) ↔ RelatedBy q k (tree_of v a) (tree_of v b)
  matched_exact binds test maps matched v fits = (
    λ h. (p, trees_of v binds, is, (matched.exact v fits (trees_of v binds)).1 (refl, h.0, h.1)),
    λ r. let exact = (matched.exact v fits r.1).0 (by_point v r) in (exact.1, exact.2),
  )
