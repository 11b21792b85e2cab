-- Two maps and a probe key.
use Rattle.std.proofs.Common.{arith, ◌≡◌, ◌≢◌, ◌⊎◌, inl, inr, ℕ, ◌+◌, ◌<◌, ◌^◌, Bool, true, false, not, List, [], ◌∷◌, ◌++◌, length, slice_get, Some, None, if◌then◌else◌, refl, sym, ap, ◌∙◌, subst}
use Rattle.std.proofs.Math.Seq.{get_or-append_seam}
use Rattle.std.proofs.lemmas.Bool.{eq-eqb}
use Rattle.std.proofs.lemmas.List.{length-append}
use Rattle.std.proofs.lemmas.List.Elements.{All-nil, All-cons}
use Rattle.std.proofs.lemmas.Option.{same_Some, slice_get_read}
use Rattle.data_value.specs.declared.DataSort.{DataSort}
use Rattle.data_value.specs.declared.DataSort.TheVariants.{Bits as BitsSort, Map as MapSort}
use Rattle.data_value.specs.declared.Scalar.{Scalar}
use Rattle.data_value.specs.declared.Scalar.TheVariants.{Flag, Bits}
use Rattle.data_value.specs.declared.Value.{Value}
use Rattle.data_value.specs.declared.Value.TheVariants.{One, Map}
use Rattle.data_value.specs.Sorts.{IsWidth, get_sort}
use Rattle.data_value.specs.Values.{IsValue, IsValueOf, map_sort, scalar_of, map_of, same_scalar}
use Rattle.data_value.specs.Maps.{Mapping, IsMapping, read}
use Rattle.data_value.specs.Ops.{got}
use Rattle.data_value.specs.Nodes.{Seen, IsValuation}
use Rattle.data_value.specs.Truth.{IsTruth, truth, mean_same}
use Rattle.data_value.specs.Views.{value_at}
use Rattle.data_value.proofs.MapLemmas.{maps_differ}
use Rattle.data_value.proofs.TestLemmas.{decides_scalar}
use Rattle.probe_keys.specs.Probed.{IsProbed}
use Rattle.probe_keys.proofs.Lengthened.{IsSettled, valuation_long}

-- a value of a map sort is a map
map_is : (k w : ℕ) (x : Value) → IsValueOf (MapSort k w) x → (m : Mapping) × (x ≡ Map m) × IsMapping m × (map_sort m ≡ MapSort k w)
map_is k w (One (Flag b)) h = absurd (let e = h.sort in cc)
map_is k w (One (Bits v x)) h = absurd (let e = h.sort in cc)
map_is k w (Map m) h = (m, refl, h.value, h.sort)

-- values of one map sort are equal, or there is a key at which they have different words
pub maps_part : (k w : ℕ) (x y : Value) → IsValueOf (MapSort k w) x → IsValueOf (MapSort k w) y → (x ≡ y) ⊎ ((key : ℕ) × (key < 2 ^ k) × (read (map_of x).entries key ≢ read (map_of y).entries key))
maps_part k w x y is is' =
    let m = map_is k w x is in
    let n = map_is k w y is' in
    let keys : m.0.key_width ≡ k = let e = m.3 in cc in
    elim (maps_differ m.0 n.0 m.2 n.2 (m.3 ∙ sym n.3)) [
      | inl e ↦ inl (m.1 ∙ ap Map e ∙ sym n.1)
      | inr d ↦
          inr (
            d.0,
            subst (λ j. d.0 < 2 ^ j) keys d.1,
            subst (λ z. read (map_of z).entries d.0 ≢ read (map_of y).entries d.0) (sym m.1) (subst (λ z. read m.0.entries d.0 ≢ read (map_of z).entries d.0) (sym n.1) d.2),
          )
    ]

-- a word that fits is a valuation of a variable of its width
word_fits : (k x : ℕ) → IsWidth k → x < 2 ^ k → IsValuation (BitsSort k ∷ []) (One (Bits k x) ∷ [])
word_fits k x width small = record { values = All-cons IsValue (One (Bits k x)) [] (width, small) (All-nil IsValue); sorted = refl }

-- scalars that differ aren't the same
apart : (a b : Scalar) → a ≢ b → not (same_scalar a b) ≡ true
apart a b differ = go (same_scalar a b) refl
  where
    go : (c : Bool) → same_scalar a b ≡ c → not c ≡ true
    go true e = absurd (differ ((decides_scalar a b).0 e))
    go false e = refl

module _ {N : Type 0} (before : List DataSort) (k w : ℕ) (width : IsWidth k) (a b l r same s : Seen N) (a_settled : IsSettled before a) (b_settled : IsSettled before b)
    (a_sorted : (v : List Value) → IsValuation before v → IsValueOf (MapSort k w) (a.meaning v)) (b_sorted : (v : List Value) → IsValuation before v → IsValueOf (MapSort k w) (b.meaning v))
    (l_is : (u : List Value) → l.meaning u ≡ got (a.meaning u ∷ value_at u (length before) ∷ [])) (r_is : (u : List Value) → r.meaning u ≡ got (b.meaning u ∷ value_at u (length before) ∷ []))
    (same_is : IsTruth same (mean_same l r)) (s_is : IsTruth s (λ u. not (truth same u))) where
  -- what the formula says
  says : (u : List Value) → truth s u ≡ not (same_scalar (scalar_of (l.meaning u)) (scalar_of (r.meaning u)))
  says u = s_is.means u ∙ ap not (same_is.means u)

  -- equal maps have one word at every key
  not_same : (v x : List Value) → IsValuation before v → truth s (v ++ x) ≡ true → ¬ (a.meaning v ≡ b.meaning v)
  not_same v x fits h = λ e.
      let u = v ++ x in
      let at : a.meaning u ≡ b.meaning u = a_settled.same v x fits ∙ e ∙ sym (b_settled.same v x fits) in
      let words : l.meaning u ≡ r.meaning u = l_is u ∙ ap (λ z. got (z ∷ value_at u (length before) ∷ [])) at ∙ sym (r_is u) in
      let yes : same_scalar (scalar_of (l.meaning u)) (scalar_of (r.meaning u)) ≡ true = (decides_scalar _ _).1 (ap scalar_of words) in
      let no : true ≡ false = sym h ∙ says u ∙ ap not yes in
      absurd (cc)

  -- at a key where the words differ the formula is true
  differ_at : (v : List Value) (key : ℕ) → IsValuation before v → read (map_of (a.meaning v)).entries key ≢ read (map_of (b.meaning v)).entries key → truth s (v ++ One (Bits k key) ∷ []) ≡ true
  differ_at v key fits differ =
      let u = v ++ One (Bits k key) ∷ [] in
      let at : value_at u (length before) ≡ One (Bits k key) = subst (λ n. value_at u n ≡ One (Bits k key)) (valuation_long before v fits) (get_or-append_seam v (One (Bits k key)) [] (One (Flag false))) in
      let left : l.meaning u ≡ One (Bits (map_of (a.meaning v)).word_width (read (map_of (a.meaning v)).entries key)) =
      l_is u ∙ ap (λ z. got (a.meaning u ∷ z ∷ [])) at ∙ ap (λ z. got (z ∷ One (Bits k key) ∷ [])) (a_settled.same v (One (Bits k key) ∷ []) fits) in
      let right : r.meaning u ≡ One (Bits (map_of (b.meaning v)).word_width (read (map_of (b.meaning v)).entries key)) =
      r_is u ∙ ap (λ z. got (b.meaning u ∷ z ∷ [])) at ∙ ap (λ z. got (z ∷ One (Bits k key) ∷ [])) (b_settled.same v (One (Bits k key) ∷ []) fits) in
      says u ∙ apart (scalar_of (l.meaning u)) (scalar_of (r.meaning u)) (λ e.
      let words : Bits (map_of (a.meaning v)).word_width (read (map_of (a.meaning v)).entries key) ≡ Bits (map_of (b.meaning v)).word_width (read (map_of (b.meaning v)).entries key) = sym (ap scalar_of left) ∙ e ∙ ap scalar_of right in
      let read_same : read (map_of (a.meaning v)).entries key ≡ read (map_of (b.meaning v)).entries key = cc in
      differ read_same)

  -- the formula that two maps have different words at the key
  pub differ_probed : (after : List DataSort) → after ≡ before ++ BitsSort k ∷ [] → IsProbed before after (λ v. true) (λ v. a.meaning v ≡ b.meaning v) s
  differ_probed after grown = record {
    keys = BitsSort k ∷ [];
    grown = grown;
    condition = s_is.condition;
    sound = λ v x fits keys h. (refl, not_same v x fits h);
    decides = λ v fits h.
        elim (maps_part k w (a.meaning v) (b.meaning v) (a_sorted v fits) (b_sorted v fits)) [
          | inl e ↦ inl e
          | inr d ↦ inr (One (Bits k d.0) ∷ [], word_fits k d.0 width d.1, differ_at v d.0 fits d.2)
        ];
  }

-- what stands behind a list of sorts
appended_is : (ss : List DataSort) (s t : DataSort) → slice_get (ss ++ s ∷ []) (length ss) ≡ Some t → t ≡ s
appended_is ss s t e = same_Some t s (sym e ∙ slice_get_read (ss ++ s ∷ []) (length ss + 1) (length ss) s (sym (length-append ss (s ∷ []))) (omega arith) (sym (get_or-append_seam ss s [] s)))

-- a map takes a key of its key width
pub key_taken : (ss : List DataSort) (a key : DataSort) (k w : ℕ) → a ≡ MapSort k w → slice_get (ss ++ BitsSort k ∷ []) (length ss) ≡ Some key → get_sort (a ∷ key ∷ []) ≡ Some (BitsSort w)
key_taken ss a key k w e is =
    ap (λ s. get_sort (s ∷ key ∷ [])) e ∙ ap (λ s. get_sort (MapSort k w ∷ s ∷ [])) (appended_is ss (BitsSort k) key is) ∙ ap (λ b. if b then Some (BitsSort w) else None) (eq-eqb k k refl)
