-- Drafts that grow.
use Rattle.std.proofs.Common.{◌≡◌, ℕ, zero, suc, ◌+◌, ◌⊎◌, inl, inr, true, false, nat_lt, is_some, IsSome, unwrap_or, if◌then◌else◌, Some, None, List, [], ◌∷◌, ◌++◌, length, map, All, slice_get, get_or, arith, refl, ap, ap₂, sym, ◌∙◌, subst}
use Rattle.std.specs.List.{list_all}
use Rattle.std.proofs.lemmas.Bool.{lt-ltb}
use Rattle.std.proofs.lemmas.List.{append-nil, take-append-le, take_at, get_or_push}
use Rattle.std.proofs.lemmas.Option.{slice_get_within, get_or_from_slice_get}
use Rattle.data_value.specs.declared.DataSort.{DataSort}
use Rattle.data_value.specs.declared.DataSort.TheVariants.{Bool as BoolSort}
use Rattle.data_value.specs.declared.Scalar.{Scalar}
use Rattle.data_value.specs.declared.Scalar.TheVariants.{Flag}
use Rattle.data_value.specs.declared.Value.{Value}
use Rattle.data_value.specs.declared.Op.{Op}
use Rattle.data_value.specs.declared.flat_formula.FlatNode.{FlatNode}
use Rattle.data_value.specs.declared.flat_formula.FlatNode.TheVariants.{Fixed, Apply}
use Rattle.data_value.specs.Sorts.{IsWidth, op_sort}
use Rattle.data_value.specs.Values.{word_of, map_of}
use Rattle.data_value.specs.Maps.{read}
use Rattle.data_value.specs.Ops.{scalar_value}
use Rattle.data_value.specs.Nodes.{IsValuation}
use Rattle.data_value.specs.Views.{BeginsWith, value_at}
use Rattle.data_value.specs.Flat.{at_places, node_sort, node_value, flat_sorts, flat_values, HaveSorts}
use Rattle.data_value.proofs.FlatLemmas.{in_turn-push, length-in_turn, value_at as place_value}
use Rattle.node_list.proofs.Lines.{begins-same, begins-both, get_last}
use Rattle.map_reads.specs.declared.read.Read.{Read}
use Rattle.map_reads.specs.declared.draft.Draft.{Draft}
use Rattle.map_reads.specs.Tied.{sort_in, value_in, IsWordOf, SameBelow, IsRead, AreReads}
use Rattle.map_reads.specs.Drafts.{sort_at, value_of, TiedTo, IsDraft, Grows, IsPushed, HasValue, Stands, IsPlaced}
use Rattle.map_reads.proofs.Growing.{sort_grown, value_grown}

pub begins_is : {X : Type 0} (xs ys : List X) → ys ≡ xs → BeginsWith ys xs
begins_is xs ys e = ([], e ∙ sym (append-nil xs))

get_left : {X : Type 0} (xs ys : List X) (k : ℕ) (x : X) → slice_get xs k ≡ Some x → slice_get (xs ++ ys) k ≡ Some x
get_left [] ys k x e = cc
get_left (y ∷ xs) ys zero x e = e
get_left (y ∷ xs) ys (suc k) x e = get_left xs ys k x e

-- what is at a place is there still
pub get_begun : {X : Type 0} (xs ys : List X) (k : ℕ) (x : X) → BeginsWith ys xs → slice_get xs k ≡ Some x → slice_get ys k ≡ Some x
get_begun xs ys k x b e = ap (λ zs. slice_get zs k) b.1 ∙ get_left xs b.0 k x e

-- what a list with one more has at a place
pub get_pushed : {X : Type 0} (xs : List X) (x : X) (k : ℕ) (y : X) → slice_get (xs ++ x ∷ []) k ≡ Some y → (slice_get xs k ≡ Some y) ⊎ ((k ≡ length xs) × (x ≡ y))
get_pushed [] x zero y e = inr (refl, cc)
get_pushed [] x (suc k) y e = absurd (cc)
get_pushed (z ∷ xs) x zero y e = inl e
get_pushed (z ∷ xs) x (suc k) y e = elim (get_pushed xs x k y e) [ inl h ↦ inl h | inr h ↦ inr (ap suc h.0, h.1) ]

pub grows-same : (d : Draft) → Grows d d
grows-same d = record { sorts = refl; scalars = refl; widths = begins-same d.widths; nodes = begins-same d.nodes; reads = begins-same d.reads }

pub grows-both : (a b c : Draft) → Grows a b → Grows b c → Grows a c
grows-both a b c p q = record {
  sorts = q.sorts ∙ p.sorts;
  scalars = q.scalars ∙ p.scalars;
  widths = begins-both a.widths b.widths c.widths p.widths q.widths;
  nodes = begins-both a.nodes b.nodes c.nodes p.nodes q.nodes;
  reads = begins-both a.reads b.reads c.reads p.reads q.reads;
}

-- what stands in a draft stands in one that has grown
module _ (old new : Draft) (draft : IsDraft old) (g : Grows old new) where
  pub sort_later : (p : ℕ) (t : DataSort) → sort_at old p ≡ Some t → sort_at new p ≡ Some t
  sort_later p t is = ap₂ (λ w n. sort_in w n p) g.widths.1 g.nodes.1 ∙ sort_grown old.widths g.widths.0 old.nodes draft.nodes_fit g.nodes.0 p t is

  pub value_like : (p : ℕ) (t : DataSort) (words others : List ℕ) → sort_at old p ≡ Some t → SameBelow (length old.widths) words others → value_of new others p ≡ value_of old words p
  value_like p t words others is same = ap₂ (λ w n. value_in w n others p) g.widths.1 g.nodes.1 ∙ value_grown old.widths g.widths.0 old.nodes draft.nodes_fit g.nodes.0 p t is words others same

  pub value_later : (p : ℕ) (t : DataSort) (words : List ℕ) → sort_at old p ≡ Some t → value_of new words p ≡ value_of old words p
  value_later p t words is = value_like p t words words is (λ i l. refl)

  pub read_later : (k : ℕ) (r : Read) → slice_get old.reads k ≡ Some r → IsRead new.sorts new.widths new.nodes k r
  read_later k r at =
      let is = draft.reads_fit.each k r at in
      subst (λ ss. IsRead ss new.widths new.nodes k r) (sym g.sorts) (record {
        map = is.map;
        key = sort_later r.key _ is.key;
        word = is.word;
        width = get_begun old.widths new.widths r.word _ g.widths is.width;
        early = λ words others same. value_later r.key _ words is.key ∙ is.early words others same ∙ sym (value_later r.key _ others is.key);
      })

  pub tied_before : (words : List ℕ) (v : List Value) → TiedTo new words v → TiedTo old words v
  tied_before words v tied = record {
    variables = λ i l. subst (λ (scalars : List ℕ). IsWordOf (value_at v i) (get_or words (get_or scalars i 0) 0)) g.scalars (tied.variables i l);
    words_read = λ k r at.
        tied.words_read k r (get_begun old.reads new.reads k r g.reads at)
        ∙ ap (λ x. read (map_of (value_at v r.variable)).entries (word_of x)) (value_later r.key _ words (draft.reads_fit.each k r at).key);
  }

  pub stands_later : (p : ℕ) (t : DataSort) (meant : List Value → Scalar) → Stands old p t meant → Stands new p t meant
  stands_later p t meant is = record {
    sort = sort_later p t is.sort;
    means = λ words v fits tied. value_later p t words is.sort ∙ is.means words v (subst (λ ss. IsValuation ss v) g.sorts fits) (tied_before words v tied);
  }

  -- the reads of a draft that got no more of them
  pub reads_later : new.reads ≡ old.reads → length new.widths ≡ length old.widths → AreReads new.sorts new.scalars new.widths new.nodes new.reads
  reads_later same count = record {
    sorts_fit = ap (list_all _) g.sorts ∙ draft.reads_fit.sorts_fit;
    count = count ∙ draft.reads_fit.count ∙ ap₂ (λ ss rs. length ss + length rs) (sym g.sorts) (sym same);
    inputs = λ i s at.
        let is = draft.reads_fit.inputs i s (ap (λ ss. slice_get ss i) (sym g.sorts) ∙ at) in
        (ap (λ xs. slice_get xs i) g.scalars ∙ is.0, get_begun old.widths new.widths i _ g.widths is.1);
    each = λ k r at. read_later k r (ap (λ rs. slice_get rs k) (sym same) ∙ at);
  }

  -- a value under all words is one where words and valuation say the same
  pub placed : (p : ℕ) (t : DataSort) (value : List ℕ → Scalar) (meant : List Value → Scalar) → HasValue old new p t value → ((words : List ℕ) (v : List Value) → IsValuation old.sorts v → TiedTo old words v → value words ≡ meant v) → IsPlaced old new p t meant
  placed p t value meant has is = record {
    grows = g;
    draft = has.draft;
    stands = record { sort = has.sort; means = λ words v fits tied. has.means words ∙ is words v (subst (λ ss. IsValuation ss v) g.sorts fits) (tied_before words v tied) };
  }

pub placed_after : (a b c : Draft) (p : ℕ) (t : DataSort) (meant : List Value → Scalar) → Grows a b → IsPlaced b c p t meant → IsPlaced a c p t meant
placed_after a b c p t meant g is = record { grows = grows-both a b c g is.grows; draft = is.draft; stands = is.stands }

-- one more node that has a sort
have_pushed : (w : List ℕ) (ns : List FlatNode) (n : FlatNode) (t : DataSort) → HaveSorts w ns → node_sort w (flat_sorts w ns) n ≡ Some t → HaveSorts w (ns ++ n ∷ [])
have_pushed w ns n t lawful is k m e = elim (get_pushed ns n k m e) [
  | inl h ↦ subst (λ ms. IsSome (node_sort w (flat_sorts w ms) m)) (sym (take-append-le k ns (n ∷ []) (let l = slice_get_within ns k m h in omega arith))) (lawful k m h)
  | inr h ↦ subst (λ ms. IsSome (node_sort w (flat_sorts w ms) m)) (sym (take_at ns (n ∷ []) k (sym h.0))) (subst (λ x. IsSome (node_sort w (flat_sorts w ns) x)) h.1 (ap is_some is))
]

-- what is at places, one by one
places_below : (sorts : List DataSort) (ps : List ℕ) (ts : List DataSort) → map (λ p. slice_get sorts p) ps ≡ map Some ts → list_all (λ p. nat_lt p (length sorts)) ps ≡ true
places_below sorts [] ts e = refl
places_below sorts (p ∷ ps) [] e = absurd (cc)
places_below sorts (p ∷ ps) (t ∷ ts) e =
    let here : slice_get sorts p ≡ Some t = cc in
    let rest : map (λ q. slice_get sorts q) ps ≡ map Some ts = cc in
    rw (lt-ltb p (length sorts) (slice_get_within sorts p t here)) (places_below sorts ps ts rest)

places_are : (sorts : List DataSort) (ps : List ℕ) (ts : List DataSort) → map (λ p. slice_get sorts p) ps ≡ map Some ts → at_places BoolSort sorts ps ≡ ts
places_are sorts [] [] e = refl
places_are sorts [] (t ∷ ts) e = absurd (cc)
places_are sorts (p ∷ ps) [] e = absurd (cc)
places_are sorts (p ∷ ps) (t ∷ ts) e =
    let here : slice_get sorts p ≡ Some t = cc in
    let rest : map (λ q. slice_get sorts q) ps ≡ map Some ts = cc in
    ap₂ (λ x xs. x ∷ xs) (get_or_from_slice_get sorts p t BoolSort here) (places_are sorts ps ts rest)

module _ (old new : Draft) (p : ℕ) (n : FlatNode) (draft : IsDraft old) (is : IsPushed old new p n) where
  pub grows_pushed : Grows old new
  grows_pushed = record { sorts = is.sorts; scalars = is.scalars; widths = begins_is old.widths new.widths is.widths; nodes = (n ∷ [], is.nodes); reads = begins_is old.reads new.reads is.reads }

  -- the value of a node that was pushed
  pub pushed : (t : DataSort) → node_sort old.widths (flat_sorts old.widths old.nodes) n ≡ Some t → HasValue old new p t (λ words. node_value old.widths words (flat_values old.widths words old.nodes) n)
  pushed t sort =
      let w = old.widths in
      let ns = old.nodes in
      let of = λ (ss : List DataSort) (m : FlatNode). unwrap_or (node_sort w ss m) BoolSort in
      record {
        grows = grows_pushed;
        draft = record {
          widths_fit = subst (All IsWidth) (sym is.widths) draft.widths_fit;
          nodes_fit = subst (λ ws. HaveSorts ws new.nodes) (sym is.widths) (subst (HaveSorts w) (sym is.nodes) (have_pushed w ns n t draft.nodes_fit sort));
          reads_fit = reads_later old new draft grows_pushed is.reads (ap length is.widths);
        };
        reads = is.reads;
        sort =
            ap₂ (λ (ws : List ℕ) (ms : List FlatNode). sort_in ws ms p) is.widths is.nodes ∙ ap (λ (ss : List DataSort). slice_get ss p) (in_turn-push of ns n)
            ∙ ap (slice_get (flat_sorts w ns ++ of (flat_sorts w ns) n ∷ [])) (is.place ∙ sym (length-in_turn of ns)) ∙ get_last (flat_sorts w ns) (of (flat_sorts w ns) n) ∙ ap (λ o. Some (unwrap_or o BoolSort)) sort;
        means = λ words.
            let vs = flat_values w words ns in
            let v = node_value w words vs n in
            ap₂ (λ (ws : List ℕ) (ms : List FlatNode). value_in ws ms words p) is.widths is.nodes ∙ ap (λ (xs : List Scalar). get_or xs p (Flag false)) (in_turn-push (node_value w words) ns n)
            ∙ get_or_push vs v (Flag false) p (length-in_turn (node_value w words) ns ∙ sym is.place);
      }

-- the value of an operator at places
pub applied : (old new : Draft) (p : ℕ) (op : Op) (ps : List ℕ) (ts : List DataSort) (t : DataSort) → IsDraft old → IsPushed old new p (Apply op ps) → map (sort_at old) ps ≡ map Some ts → op_sort op ts ≡ Some t → HasValue old new p t (λ words. scalar_value op (map (value_of old words) ps))
applied old new p op ps ts t draft is sorts sort =
    let ss = flat_sorts old.widths old.nodes in
    pushed old new p (Apply op ps) draft is t
    (ap (λ b. if b then op_sort op (at_places BoolSort ss ps) else None) (places_below ss ps ts sorts) ∙ ap (op_sort op) (places_are ss ps ts sorts) ∙ sort)

-- the value of a fixed node
pub value_fixed : (d : Draft) (p : ℕ) (s : Scalar) → slice_get d.nodes p ≡ Some (Fixed s) → (words : List ℕ) → value_of d words p ≡ s
value_fixed d p s at words = get_or_from_slice_get (flat_values d.widths words d.nodes) p s (Flag false) (place_value d.widths words d.nodes p (Fixed s) at)

-- a value said in other words
pub value_as : (old new : Draft) (p : ℕ) (t : DataSort) (value other : List ℕ → Scalar) → HasValue old new p t value → ((words : List ℕ) → value words ≡ other words) → HasValue old new p t other
value_as old new p t value other has is = record { grows = has.grows; draft = has.draft; reads = has.reads; sort = has.sort; means = λ words. has.means words ∙ is words }

-- a value in a draft that has grown without more reads
pub value_after : (a b c : Draft) (p : ℕ) (t : DataSort) (value : List ℕ → Scalar) → Grows a b → b.reads ≡ a.reads → HasValue b c p t value → HasValue a c p t value
value_after a b c p t value g same has = record { grows = grows-both a b c g has.grows; draft = has.draft; reads = has.reads ∙ same; sort = has.sort; means = has.means }
