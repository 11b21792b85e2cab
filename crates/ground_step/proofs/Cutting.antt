-- In the cut: some item covers.
use Rattle.std.proofs.Common.{◌≡◌, ℕ, ◌<◌, List, length, get_or, Some, All, sym, ap, ◌∙◌, subst}
use Rattle.std.proofs.lemmas.Option.{slice_get_within, get_or_from_slice_get}
use Rattle.sort_term.specs.declared.semantics.Con.{Con}
use Rattle.sort_term.specs.declared.points.Cut.{Cut}
use Rattle.sort_term.specs.Tree.{Tree}
use Rattle.sort_term.specs.Cuts.{InCut, IsCovered}
use Rattle.sort_term.proofs.Standing.{get-some}

module _ {S : Type 0} (cons : List Con) (cuts : List (Cut S)) (s : Tree) where
  pub item_in : (i : ℕ) (item : Cut S) → i < length cuts → item ≡ get_or cuts i item → IsCovered cons item s → InCut cons cuts s
  item_in i item l e c = record { place = i; item = item; there = get-some cuts i item l ∙ ap Some (sym e); valuation = c.0; covers = c.1 }

  pub none_in : All (λ item. ¬ IsCovered cons item s) cuts → ¬ InCut cons cuts s
  none_in none c =
      subst (λ (x : Cut S). ¬ IsCovered cons x s) (get_or_from_slice_get cuts c.place c.item c.item c.there) (none c.place c.item (slice_get_within cuts c.place c.item c.there)) (c.valuation, c.covers)
