-- A formula without maps says what the formula says that it comes from.
use Rattle.std.proofs.Common.{◌≡◌, ℕ, ◌<◌, true, false, Some, List, [], ◌∷◌, get_or, slice_get, length, arith, ap, ap₂, sym, ◌∙◌, subst}
use Rattle.std.specs.Prelude.{◌↔◌}
use Rattle.std.proofs.lemmas.Option.{get_or_from_slice_get, slice_get-get_or}
use Rattle.data_value.specs.declared.DataSort.{DataSort}
use Rattle.data_value.specs.declared.DataSort.TheVariants.{Bool as BoolSort}
use Rattle.data_value.specs.declared.Scalar.{Scalar}
use Rattle.data_value.specs.declared.Scalar.TheVariants.{Flag, Bits}
use Rattle.data_value.specs.declared.Value.{Value}
use Rattle.data_value.specs.declared.flat_formula.FlatNode.{FlatNode}
use Rattle.data_value.specs.Values.{flag_of, word_of, map_of}
use Rattle.data_value.specs.Maps.{read}
use Rattle.data_value.specs.Nodes.{Seen, IsValuation}
use Rattle.data_value.specs.Truth.{truth}
use Rattle.data_value.specs.Views.{value_at}
use Rattle.data_value.specs.Flat.{node_value, flat_values}
use Rattle.data_value.proofs.FlatLemmas.{length-in_turn}
use Rattle.map_reads.specs.declared.read.Read.{Read}
use Rattle.map_reads.specs.declared.read.Reads.{Reads}
use Rattle.map_reads.specs.declared.draft.Draft.{Draft}
use Rattle.map_reads.specs.Tied.{value_in, Tied}
use Rattle.map_reads.specs.Drafts.{value_of, TiedTo, Stands, IsPlaced}
use Rattle.map_reads.specs.Demands.{AllAgree, IsDemanded}
use Rattle.map_reads.specs.Lifted.{lifted, FlatHolds, TiedBy}
use Rattle.map_reads.specs.Placing.{scalar_meant, ArePlaced}
use Rattle.map_reads.specs.Reduced.{MeansTheSame, IsSound, IsFinished}
use Rattle.map_reads.proofs.Growing.{place_within}
use Rattle.map_reads.proofs.Drafting.{tied_before}
use Rattle.map_reads.proofs.Demanding.{agree_later}
use Rattle.map_reads.proofs.Tying.{lifted_fits, lifted_ties}

true_flag : (s : Scalar) → flag_of s ≡ true → s ≡ Flag true
true_flag (Flag b) e = ap Flag e
true_flag (Bits w x) e = absurd (cc)

-- the reads of words that say the same as a valuation agree
tied_agree : (scalars widths : List ℕ) (nodes : List FlatNode) (reads : List Read) (words : List ℕ) (v : List Value) → Tied scalars widths nodes reads words v → AllAgree widths nodes reads words
tied_agree scalars widths nodes reads words v tied i j a b at_i at_j same key =
    tied.words_read i a at_i ∙ ap₂ (λ x y. read (map_of (value_at v x)).entries (word_of y)) same key ∙ sym (tied.words_read j b at_j)

module _ {N : Type 0} (formula : Seen N) (begun placed last : Draft) (p root : ℕ) (t : DataSort) (r : Reads) (place : IsPlaced begun placed p t (scalar_meant formula)) (demanded : IsDemanded placed last p root (AllAgree placed.widths placed.nodes placed.reads)) (is : IsFinished last root r) where
  value_is : (words : List ℕ) → value_in r.flat.widths r.flat.nodes words r.flat.root ≡ value_of last words root
  value_is words = ap₂ (λ w n. value_in w n words r.flat.root) is.widths is.nodes ∙ ap (value_of last words) is.root

  holds_is : (words : List ℕ) → FlatHolds r words ↔ (flag_of (value_of last words root) ≡ true)
  holds_is words =
      let values = flat_values r.flat.widths words r.flat.nodes in
      let place_in = place_within r.flat.widths [] r.flat.nodes r.flat.fits.nodes_fit [] r.flat.root BoolSort r.flat.fits.root_fits in
      let within : r.flat.root < length values = let e = length-in_turn (node_value r.flat.widths words) r.flat.nodes in omega arith in (
        λ h. ap flag_of (sym (value_is words) ∙ get_or_from_slice_get values r.flat.root (Flag true) (Flag false) h),
        λ h. slice_get-get_or values r.flat.root (Flag false) within ∙ ap Some (true_flag (value_in r.flat.widths r.flat.nodes words r.flat.root) (ap flag_of (value_is words) ∙ h)),
      )

  sorts_are : r.sorts ≡ placed.sorts
  sorts_are = is.sorts ∙ demanded.grows.sorts

  tied_last : (words : List ℕ) (v : List Value) → TiedBy r words v → TiedTo last words v
  tied_last words v tied =
      subst (λ xs. Tied xs last.widths last.nodes last.reads words v) is.scalars
      (subst (λ ws. Tied r.scalars ws last.nodes last.reads words v) is.widths (subst (λ ns. Tied r.scalars r.flat.widths ns last.reads words v) is.nodes (subst (λ rs. Tied r.scalars r.flat.widths r.flat.nodes rs words v) is.reads tied)))

  truth_is : (words : List ℕ) (v : List Value) → IsValuation r.sorts v → TiedBy r words v → FlatHolds r words ↔ (truth formula v ≡ true)
  truth_is words v fits tied =
      let before = tied_before placed last place.draft demanded.grows words v (tied_last words v tied) in
      let value : value_of placed words p ≡ scalar_meant formula v = place.stands.means words v (subst (λ ss. IsValuation ss v) sorts_are fits) before in (
        λ h. sym (ap flag_of value) ∙ ((demanded.means words).0 ((holds_is words).0 h)).0,
        λ h. (holds_is words).1 ((demanded.means words).1 (ap flag_of value ∙ h, tied_agree placed.scalars placed.widths placed.nodes placed.reads words v before)),
      )

  pub means_same : MeansTheSame formula r
  means_same words v fits are tied = truth_is words v fits tied

  reads_agree : (words : List ℕ) → FlatHolds r words → AllAgree r.flat.widths r.flat.nodes r.reads words
  reads_agree words h =
      let before = ((demanded.means words).0 ((holds_is words).0 h)).1 in
      let agree : AllAgree last.widths last.nodes last.reads words = λ i j. agree_later placed last place.draft demanded.grows demanded.reads words i j (before i j) in
      subst (λ ws. AllAgree ws r.flat.nodes r.reads words) (sym is.widths) (subst (λ ns. AllAgree last.widths ns r.reads words) (sym is.nodes) (subst (λ rs. AllAgree last.widths last.nodes rs words) (sym is.reads) agree))

  pub is_sound : IsSound formula r
  is_sound words are h =
      let fits = lifted_fits r words are in
      let ties = lifted_ties r words are (reads_agree words h) in
      record { fits = fits; ties = ties; holds = (truth_is words (lifted r words) fits ties).0 h }

-- the first of placed nodes stands at the first place
pub first_placed : {N : Type 0} (look : N → Seen N) (old new : Draft) (nodes : List N) (ps : List ℕ) (n : N) (s : Seen N) → nodes ≡ n ∷ [] → look n ≡ s → ArePlaced look old new nodes ps → IsPlaced old new (get_or ps 0 0) s.sort (scalar_meant s)
first_placed look old new nodes ps n s one same placed = record {
  grows = placed.grows;
  draft = placed.draft;
  stands = subst (λ t. Stands new (get_or ps 0 0) t.sort (scalar_meant t)) same
      (placed.each 0 n (get_or ps 0 0) (ap (λ ns. slice_get ns 0) one) (slice_get-get_or ps 0 0 (omega (arith, placed.count, ap length one))));
}
