-- Where a configuration is outside of a cut, one item at a time.
use Rattle.std.proofs.Common.{◌≡◌, ◌↔◌, ℕ, ◌+◌, ◌<◌, Bool, true, false, not, ◌&&◌, List, length, take, get_or, Some, refl, sym, ap, ◌∙◌, ◌⊎◌, inl, inr}
use Rattle.std.specs.Prelude.{Any}
use Rattle.std.proofs.lemmas.Option.{slice_get_within, get_or_from_slice_get}
use Rattle.data_value.specs.declared.DataSort.{DataSort}
use Rattle.data_value.specs.declared.Value.{Value}
use Rattle.data_value.specs.Nodes.{Seen, IsValuation}
use Rattle.data_value.specs.Truth.{truth, IsTruth}
use Rattle.sort_term.specs.declared.points.Cut.{Cut}
use Rattle.sort_term.specs.declared.semantics.Con.{Con}
use Rattle.sort_term.specs.declared.term.Term.{Term}
use Rattle.sort_term.specs.Tree.{Tree}
use Rattle.sort_term.specs.Cuts.{InCut, IsCovered}
use Rattle.sort_term.specs.NodeTerms.{tree_of}
use Rattle.sort_term.proofs.Standing.{get-some}
use Rattle.unify.proofs.Anys.{any_more}
use Rattle.cut_cover.specs.Outside.{IsCovering, IsOutside}

module _ {S : Type 0} (cons : List Con) (t : Tree) where
  -- in the cut: some item covers
  in_some : (cuts : List (Cut S)) → InCut cons cuts t ↔ Any (λ item. IsCovered cons item t) cuts
  in_some cuts = (
    λ x. (x.place, x.item, slice_get_within cuts x.place x.item x.there, get_or_from_slice_get cuts x.place x.item x.item x.there, (x.valuation, x.covers)),
    λ a. record { place = a.0; item = a.1; there = get-some cuts a.0 a.1 a.2 ∙ ap Some a.3; valuation = a.4.0; covers = a.4.1 },
  )

  module _ (cuts : List (Cut S)) (i : ℕ) (item : Cut S) (l : i < length cuts) (is : item ≡ get_or cuts i item) where
    in_more : InCut cons (take (i + 1) cuts) t ↔ (InCut cons (take i cuts) t ⊎ IsCovered cons item t)
    in_more = (to, from)
      where
        more : Any (λ x. IsCovered cons x t) (take (i + 1) cuts) ↔ (Any (λ x. IsCovered cons x t) (take i cuts) ⊎ IsCovered cons item t)
        more = any_more (λ x. IsCovered cons x t) cuts i item l is

        to : InCut cons (take (i + 1) cuts) t → InCut cons (take i cuts) t ⊎ IsCovered cons item t
        to x = go (more.0 ((in_some (take (i + 1) cuts)).0 x))
          where
            go : Any (λ x. IsCovered cons x t) (take i cuts) ⊎ IsCovered cons item t → InCut cons (take i cuts) t ⊎ IsCovered cons item t
            go (inl a) = inl ((in_some (take i cuts)).1 a)
            go (inr c) = inr c

        from : InCut cons (take i cuts) t ⊎ IsCovered cons item t → InCut cons (take (i + 1) cuts) t
        from (inl x) = (in_some (take (i + 1) cuts)).1 (more.1 (inl ((in_some (take i cuts)).0 x)))
        from (inr c) = (in_some (take (i + 1) cuts)).1 (more.1 (inr c))

module _ {S N : Type 0} (variables : List DataSort) (cons : List Con) (state : Term (Seen N)) where
  -- outside of the items so far, and where one more doesn't cover
  pub outside_more : (cuts : List (Cut S)) (i : ℕ) (item : Cut S) → i < length cuts → item ≡ get_or cuts i item → (s covering next : Seen N) → IsOutside variables cons (take i cuts) state s → IsCovering variables cons item state covering → IsTruth next (λ v. truth s v && not (truth covering v)) → IsOutside variables cons (take (i + 1) cuts) state next
  outside_more cuts i item l is s covering next before here joins = record { condition = joins.condition; inside = λ v fits. (to v fits, from v fits) }
    where
      to : (v : List Value) → IsValuation variables v → truth next v ≡ false → InCut cons (take (i + 1) cuts) (tree_of v state)
      to v fits h = go (truth s v) (truth covering v) refl refl (sym (joins.means v) ∙ h)
        where
          go : (p q : Bool) → truth s v ≡ p → truth covering v ≡ q → p && not q ≡ false → InCut cons (take (i + 1) cuts) (tree_of v state)
          go false q e k n = (in_more cons (tree_of v state) cuts i item l is).1 (inl ((before.inside v fits).0 e))
          go true true e k n = (in_more cons (tree_of v state) cuts i item l is).1 (inr ((here.exact v fits).0 k))
          go true false e k n = absurd (cc)

      from : (v : List Value) → IsValuation variables v → InCut cons (take (i + 1) cuts) (tree_of v state) → truth next v ≡ false
      from v fits x = go ((in_more cons (tree_of v state) cuts i item l is).0 x)
        where
          second : (p : Bool) → p && false ≡ false
          second true = refl
          second false = refl

          go : InCut cons (take i cuts) (tree_of v state) ⊎ IsCovered cons item (tree_of v state) → truth next v ≡ false
          go (inl y) = joins.means v ∙ ap (λ p. p && not (truth covering v)) ((before.inside v fits).1 y)
          go (inr c) = joins.means v ∙ ap (λ q. truth s v && not q) ((here.exact v fits).1 c) ∙ second (truth s v)
