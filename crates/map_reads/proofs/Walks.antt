-- Lines and their places.
use Rattle.std.proofs.Common.{◌≡◌, ℕ, ◌<◌, inl, inr, true, false, if◌then◌else◌, IsTrue, Some, List, [], ◌∷◌, length, take, drop, reverse, slice_get, get_or, arith, refl, ap, ap₂, sym, ◌∙◌, subst}
use Rattle.std.proofs.lemmas.List.{take-append-drop, length-take}
use Rattle.std.proofs.lemmas.Option.{same_Some, slice_get_within, slice_get_cases, get_or_from_slice_get}
use Rattle.data_value.specs.declared.DataSort.{DataSort}
use Rattle.data_value.specs.declared.DataSort.TheVariants.{Bits as BitsSort, Map as MapSort}
use Rattle.data_value.specs.declared.Value.{Value}
use Rattle.data_value.specs.declared.Op.TheVariants.{Get}
use Rattle.data_value.specs.Sorts.{is_scalar_sort, op_sort}
use Rattle.data_value.specs.Values.{IsValueOf, same_scalar, scalar_of}
use Rattle.data_value.specs.Ops.{op_value}
use Rattle.data_value.specs.Nodes.{Seen, IsValuation, IsLawful}
use Rattle.data_value.specs.Views.{shown_args}
use Rattle.node_list.specs.declared.line.Line.{Line}
use Rattle.node_list.specs.Listed.{StandsAt, AreLines}
use Rattle.node_list.proofs.Lines.{stands_more}
use Rattle.map_reads.specs.declared.draft.Draft.{Draft}
use Rattle.map_reads.specs.declared.placing.Place.{Place}
use Rattle.map_reads.specs.declared.placing.Place.TheVariants.{Scalar, Map, Over}
use Rattle.map_reads.specs.declared.placing.Put.{Put}
use Rattle.map_reads.specs.declared.placing.Chain.{Chain}
use Rattle.map_reads.specs.Drafts.{sort_at, value_of, IsDraft, HasValue, Stands, IsPlaced}
use Rattle.map_reads.specs.Placing.{IsScalarAt, PointDown, LeadsUp, IsChain, IsWordAt, IsOver, StandsFor, HavePlaces, read_meant, scalar_meant}
use Rattle.map_reads.proofs.Drafting.{stands_later, placed, placed_after}
use Rattle.map_reads.proofs.Operators.{get_sorted, put_read}

-- what some line of the chain's map has at the key was found
pub record IsClimb {N : Type 0} (look : N → Seen N) (old new : Draft) (lines : List (Line N)) (places : List Place) (top key : ℕ) (puts : List Put) (found : ℕ) : Type 0 where
  pub line : ℕ
  pub leads : LeadsUp places top puts line
  pub reads : (s k : Seen N) (keys words : ℕ) → StandsAt look lines line s → s.sort ≡ MapSort keys words → IsWordAt old key keys k → IsPlaced old new found (BitsSort words) (read_meant s k)

-- a map that is a variable or a constant stands at the line
pub record IsBase {N : Type 0} (look : N → Seen N) (lines : List (Line N)) (line : ℕ) (own : DataSort) (n : N) : Type 0 where
  pub at : StandsAt look lines line (look n)
  pub sort : (look n).sort ≡ own
  pub valid : IsTrue (look n).valid
  pub leaf : shown_args (look n).shown ≡ []

-- what a map after a put has at a key, where it was found what it had before
pub over_placed : {N : Type 0} (old mid new : Draft) (above below k : Seen N) (put : Put) (key keys words found p : ℕ) → IsDraft old → IsOver old above below put → above.sort ≡ MapSort keys words → IsWordAt old key keys k → IsPlaced old mid found (BitsSort words) (read_meant below k) →
    HasValue mid new p (BitsSort words) (λ us. if same_scalar (value_of mid us put.key) (value_of mid us key) then value_of mid us put.word else value_of mid us found) → IsPlaced old new p (BitsSort words) (read_meant above k)
over_placed old mid new above below k put key keys words found p draft over sort key_at before has =
    let same : MapSort over.key_width over.word_width ≡ MapSort keys words = sym over.sort ∙ sort in
    let widths : (over.key_width ≡ keys) × (over.word_width ≡ words) = (cc, cc) in
    let put_key = stands_later old mid draft before.grows put.key _ _ over.key_at.stands in
    let put_word = stands_later old mid draft before.grows put.word _ _ over.word_at.stands in
    let read_key = stands_later old mid draft before.grows key _ _ key_at.stands in
    placed_after old mid new p (BitsSort words) _ before.grows
    (placed mid new before.draft has.grows p (BitsSort words) _ (read_meant above k) has
    (λ us v fits tied.
    let fits_old = subst (λ ss. IsValuation ss v) before.grows.sorts fits in
    let m = below.meaning v in
    let x = over.key.meaning v in
    let y = k.meaning v in
    let z = over.word.meaning v in
    ap₂ (λ s t. if same_scalar s t then value_of mid us put.word else value_of mid us found) (put_key.means us v fits tied) (read_key.means us v fits tied)
    ∙ ap₂ (λ s t. if same_scalar (scalar_of x) (scalar_of y) then s else t) (put_word.means us v fits tied) (before.stands.means us v fits tied)
    ∙ put_read m x y z keys words ((over.map_value v fits_old).sort ∙ same) ((over.key_at.value v fits_old).sort ∙ ap BitsSort widths.0) (key_at.value v fits_old).sort ((over.word_at.value v fits_old).sort ∙ ap BitsSort widths.1)
    ∙ ap (λ n. scalar_of (op_value Get (n ∷ y ∷ []))) (sym (over.means v))))

module _ {N : Type 0} (look : N → Seen N) (lines : List (Line N)) where
  -- what stands among the first lines
  pub stands_below : (k line : ℕ) (s : Seen N) → StandsAt look (take k lines) line s → (line < k) × StandsAt look lines line s
  stands_below k line s at = (
    let l = slice_get_within (take k lines) line at.0 at.1 in let t = length-take k lines in omega arith,
    stands_more look (take k lines) lines line s (drop k lines, sym (take-append-drop k lines)) at,
  )

  module _ (places : List Place) (d : Draft) (have : HavePlaces look d lines places) where
    pub stands_for : (line : ℕ) (s : Seen N) (p : Place) → StandsAt look lines line s → slice_get places line ≡ Some p → StandsFor look d lines line s p
    stands_for line s p at is = subst (λ (x : Seen N). StandsFor look d lines line x p) at.2 (have.each line at.0 p at.1 is)

    -- there is a place within the list
    place_at : (line : ℕ) → line < length places → (p : Place) × (slice_get places line ≡ Some p)
    place_at line l = elim (slice_get_cases places line).1 [
      | inl h ↦ (h.0, h.2)
      | inr h ↦ absurd (let past = h.0 in omega arith)
    ]

    line_at : (line : ℕ) → line < length places → (x : Line N) × (slice_get lines line ≡ Some x)
    line_at line l = elim (slice_get_cases lines line).1 [
      | inl h ↦ (h.0, h.2)
      | inr h ↦ absurd (let past = h.0 in let w = have.within in omega arith)
    ]

    as_scalar : (line : ℕ) (s : Seen N) (p : Place) → StandsFor look d lines line s p → is_scalar_sort s.sort ≡ true → (q : ℕ) × (p ≡ Scalar q)
    as_scalar line s (Scalar q) for one = (q, refl)
    as_scalar line s Map for one = let none = for.0 in absurd (cc)
    as_scalar line s (Over m put) for one = let sort = ap is_scalar_sort for.1.2.sort in absurd (cc)

    -- a scalar's line has the place of a scalar
    pub scalar_there : (line : ℕ) (s : Seen N) → StandsAt look lines line s → line < length places → is_scalar_sort s.sort ≡ true → IsScalarAt places line
    scalar_there line s at l one =
        let p = place_at line l in
        let q = as_scalar line s p.0 (stands_for line s p.0 at p.1) one in
        record { place = q.0; at = p.1 ∙ ap Some q.1 }

    pub scalar_stands : (line : ℕ) (s : Seen N) (q : ℕ) → StandsAt look lines line s → slice_get places line ≡ Some (Scalar q) → Stands d q s.sort (scalar_meant s)
    scalar_stands line s q at is = (stands_for line s (Scalar q) at is).1

    -- maps that were put into are those of earlier lines
    pub points_down : PointDown places
    points_down k m put at = let x = line_at k (slice_get_within places k (Over m put) at) in (have.each k x.0 (Over m put) x.1 at).0

    -- the maps of the lines that a chain leads up from have one sort
    pub leads_from : (top : ℕ) (m : Seen N) → StandsAt look lines top m → (puts : List Put) (line : ℕ) → LeadsUp places top puts line → (s : Seen N) × (StandsAt look lines line s × (s.sort ≡ m.sort))
    leads_from top m at [] line leads = (m, (subst (λ n. StandsAt look lines n m) (sym leads) at, refl))
    leads_from top m at (put ∷ puts) line leads =
        let h = leads_from top m at puts leads.0 leads.2 in
        let for = stands_for leads.0 h.0 (Over line put) h.1.0 leads.1 in
        (for.1.0, (for.1.1, for.1.2.same_sort ∙ h.1.1))

    leaf_of : (line : ℕ) (s : Seen N) (p : Place) → StandsFor look d lines line s p → is_scalar_sort s.sort ≡ false → ((m : ℕ) (put : Put) → p ≡ Over m put → ⊥) → shown_args s.shown ≡ []
    leaf_of line s (Scalar q) for none ends = let one = for.0 in absurd (cc)
    leaf_of line s Map for none ends = for.1
    leaf_of line s (Over m put) for none ends = absurd (ends m put refl)

    -- where nothing was put into a map, it is a variable or a constant
    pub base_is_leaf : (line : ℕ) (s : Seen N) → StandsAt look lines line s → line < length places → is_scalar_sort s.sort ≡ false → ((m : ℕ) (put : Put) → slice_get places line ≡ Some (Over m put) → ⊥) → shown_args s.shown ≡ []
    base_is_leaf line s at l none ends =
        let p = place_at line l in
        leaf_of line s p.0 (stands_for line s p.0 at p.1) none (λ m put e. ends m put (p.1 ∙ ap Some e))

    -- a chain's base was read
    pub climb_begins : (new : Draft) (top key base found : ℕ) (sort : DataSort) (n : N) (puts : List Put) → LeadsUp places top puts base → IsBase look lines base sort n →
        ((keys words : ℕ) (k : Seen N) → (look n).sort ≡ MapSort keys words → IsWordAt d key keys k → IsPlaced d new found (BitsSort words) (read_meant (look n) k)) → IsClimb look d new lines places top key puts found
    climb_begins new top key base found sort n puts leads is told = record {
      line = base;
      leads = leads;
      reads = λ s k keys words at sorted key_at.
          let line : is.at.0 ≡ at.0 = same_Some is.at.0 at.0 (sym is.at.1 ∙ at.1) in
          let same : look n ≡ s = sym is.at.2 ∙ ap (λ (x : Line N). look x.node) line ∙ at.2 in
          subst (λ (x : Seen N). IsPlaced d new found (BitsSort words) (read_meant x k)) same (told keys words k (ap (λ (x : Seen N). x.sort) same ∙ sorted) key_at);
    }

    -- a chain is climbed by one line
    pub climbed : (mid new : Draft) (top key : ℕ) (put : Put) (puts : List Put) (found p : ℕ) → IsDraft d → IsClimb look d mid lines places top key (put ∷ puts) found →
        ((t u : DataSort) → IsDraft mid → is_scalar_sort t ≡ true → is_scalar_sort u ≡ true → sort_at mid put.key ≡ Some u → sort_at mid key ≡ Some u → sort_at mid put.word ≡ Some t → sort_at mid found ≡ Some t →
        HasValue mid new p t (λ us. if same_scalar (value_of mid us put.key) (value_of mid us key) then value_of mid us put.word else value_of mid us found)) →
        IsClimb look d new lines places top key puts p
    climbed mid new top key put puts found p draft before told = record {
      line = before.leads.0;
      leads = before.leads.2;
      reads = λ s k keys words at sort key_at.
          let for = stands_for before.leads.0 s (Over before.line put) at before.leads.1 in
          let below = for.1.0 in
          let over = for.1.2 in
          let same : MapSort over.key_width over.word_width ≡ MapSort keys words = sym over.sort ∙ sort in
          let widths : (over.key_width ≡ keys) × (over.word_width ≡ words) = (cc, cc) in
          let is = before.reads below k keys words for.1.1 (over.same_sort ∙ sort) key_at in
          let put_key = stands_later d mid draft is.grows put.key _ _ over.key_at.stands in
          let put_word = stands_later d mid draft is.grows put.word _ _ over.word_at.stands in
          let read_key = stands_later d mid draft is.grows key _ _ key_at.stands in
          over_placed d mid new s below k put key keys words found p draft over sort key_at is
          (told (BitsSort words) (BitsSort keys) is.draft refl refl (put_key.sort ∙ ap (λ n. Some (BitsSort n)) widths.0) read_key.sort (put_word.sort ∙ ap (λ n. Some (BitsSort n)) widths.1) is.stands.sort);
    }

    module _ (variables : List DataSort) (laws : IsLawful look variables) (ordered : AreLines look lines) (sorts : d.sorts ≡ variables) where
      -- the node of a line means values of its sort
      pub means_own : (line : ℕ) (s : Seen N) → StandsAt look lines line s → (v : List Value) → IsValuation d.sorts v → IsValueOf s.sort (s.meaning v)
      means_own line s at v fits =
          subst (λ (x : Seen N). IsValueOf x.sort (x.meaning v)) at.2 (laws.sorted at.0.node (ordered line at.0 at.1).valid v (subst (λ ss. IsValuation ss v) sorts fits))

      pub word_there : (line : ℕ) (s : Seen N) (q w : ℕ) → StandsAt look lines line s → slice_get places line ≡ Some (Scalar q) → s.sort ≡ BitsSort w → IsWordAt d q w s
      word_there line s q w at is sort = record {
        stands = subst (λ t. Stands d q t (scalar_meant s)) sort (scalar_stands line s q at is);
        value = λ v fits. subst (λ t. IsValueOf t (s.meaning v)) sort (means_own line s at v fits);
      }

      -- the base of a chain, as it was read from the list
      pub base_is : (top : ℕ) (m : Seen N) (chain : Chain) (r : Line N) → StandsAt look lines top m → is_scalar_sort m.sort ≡ false → IsChain places top chain → IsBase look lines chain.base m.sort (get_or lines chain.base r).node
      base_is top m chain r at none is =
          let h = leads_from top m at (reverse chain.puts.items) chain.base is.leads in
          let here : get_or lines chain.base r ≡ h.1.0.0 = get_or_from_slice_get lines chain.base h.1.0.0 r h.1.0.1 in
          let n = h.1.0.0.node in
          let sort : (look n).sort ≡ m.sort = ap (λ (s : Seen N). s.sort) h.1.0.2 ∙ h.1.1 in
          let stands : StandsAt look lines chain.base (look n) = (h.1.0.0, h.1.0.1, refl) in
          subst (λ (x : Line N). IsBase look lines chain.base m.sort x.node) (sym here) (record {
            at = stands;
            sort = sort;
            valid = (ordered chain.base h.1.0.0 h.1.0.1).valid;
            leaf = base_is_leaf chain.base (look n) stands is.within (ap is_scalar_sort sort ∙ none) is.ends;
          })

      -- the whole chain was climbed
      pub read_placed : (new : Draft) (top key_line key p : ℕ) → slice_get places key_line ≡ Some (Scalar key) → IsClimb look d new lines places top key [] p → (m k : Seen N) (t : DataSort) → StandsAt look lines top m → StandsAt look lines key_line k → op_sort Get (m.sort ∷ k.sort ∷ []) ≡ Some t → IsPlaced d new p t (read_meant m k)
      read_placed new top key_line key p key_is climb m k t at key_at sort =
          let is = get_sorted m.sort k.sort t sort in
          let here = subst (λ n. StandsAt look lines n m) (sym climb.leads) at in
          let found = climb.reads m k is.0 is.1.0 here is.1.1.0 (word_there key_line k key is.0 key_at key_is is.1.1.1.0) in
          subst (λ s. IsPlaced d new p s (read_meant m k)) (sym is.1.1.1.1) found
