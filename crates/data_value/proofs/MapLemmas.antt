-- Maps: a put gives a map, reads of a put, and equality by reads.
use Rattle.std.proofs.Common.{◌≡◌, ◌≢◌, ◌<◌, ◌≤◌, ◌^◌, ℕ, suc, Bool, true, false, ◌==◌, List, [], ◌∷◌, ◌++◌, All, if◌then◌else◌, ◌⊎◌, inl, inr, arith, ap, refl, sym, ◌∙◌, ◌&&◌, nat_lt, not}
use Rattle.std.proofs.lemmas.Bool.{cases_order, cases_lt, lt-ltb, le-ltb, cases_eq, ne_eqb, eq-eqb}
use Rattle.std.proofs.lemmas.Bool.Decides.{nat_tests}
use Rattle.std.proofs.lemmas.List.Elements.{All-append, All-filter, All-nil, All-cons, All-head, All-tail}
use Rattle.std.proofs.lemmas.Nat.{pow_pos}
use Rattle.data_value.specs.Values.{map_sort}
use Rattle.data_value.specs.Maps.{Mapping, IsMapping, SameReads, DifferSomewhere, RisesFrom, FitsEntry, read, write, put_into, entries_below, entries_above, entry_of}

rises_weaker : (a b : ℕ) (es : List (ℕ × ℕ)) → b ≤ a → RisesFrom a es → RisesFrom b es
rises_weaker a b [] h r = tt
rises_weaker a b (e ∷ es) h r = (omega (arith, r.0), r.1)

none_below : (from k : ℕ) (es : List (ℕ × ℕ)) → k ≤ from → RisesFrom from es → entries_below k es ≡ []
none_below from k [] h r = refl
none_below from k (e ∷ es) h r =
    let t = le-ltb e.0 k (omega (arith, r.0)) in
    rw t (none_below (suc e.0) k es (omega (arith, r.0)) r.1)

all_above : (from k : ℕ) (es : List (ℕ × ℕ)) → k < from → RisesFrom from es → entries_above k es ≡ es
all_above from k [] h r = refl
all_above from k (e ∷ es) h r =
    let t = lt-ltb k e.0 (omega (arith, r.0)) in
    rw t (ap (λ (l : List (ℕ × ℕ)). e ∷ l) (all_above (suc e.0) k es (omega (arith, r.0)) r.1))

-- an entry in front of entries with larger keys
rises_entry : (from k v : ℕ) (es : List (ℕ × ℕ)) → from ≤ k → RisesFrom (suc k) es → RisesFrom from (entry_of k v ++ es)
rises_entry from k v es h r =
    elim (v == 0) as (λ b. RisesFrom from ((if b then [] else (k, v) ∷ []) ++ es)) [
      | true ↦ rises_weaker (suc k) from es (omega arith) r
      | false ↦ (h, r)
    ]

pub rises_write : (from k v : ℕ) (es : List (ℕ × ℕ)) → from ≤ k → RisesFrom from es → RisesFrom from (write es k v)
rises_write from k v [] h r = rises_entry from k v [] h tt
rises_write from k v (e ∷ es) h r =
    elim (cases_lt e.0 k) [
      | inl l ↦
          let t = lt-ltb e.0 k l in
          let u = le-ltb k e.0 (omega arith) in
          rw (t, u) (r.0, rises_write (suc e.0) k v es (omega arith) r.1)
      | inr g ↦
          let t = le-ltb e.0 k g in
          let b = none_below (suc e.0) k es (omega arith) r.1 in
          elim (cases_lt k e.0) [
            | inl l ↦
                let u = lt-ltb k e.0 l in
                let a = all_above (suc e.0) k es (omega arith) r.1 in
                rw (t, u, b, a) (rises_entry from k v (e ∷ es) h (omega arith, r.1))
            | inr f ↦
                let u = le-ltb k e.0 f in
                let a = all_above (suc e.0) k es (omega arith) r.1 in
                rw (t, u, b, a) (rises_entry from k v es h (rises_weaker (suc e.0) (suc k) es (omega arith) r.1))
          ]
    ]

fits_entry_of : (kw vw k v : ℕ) → k < 2 ^ kw → v < 2 ^ vw → All (FitsEntry kw vw) (entry_of k v)
fits_entry_of kw vw k v h l =
    elim (cases_eq v 0) [
      | inl e ↦ rw (eq-eqb v 0 e) (All-nil (FitsEntry kw vw))
      | inr n ↦ rw (ne_eqb v 0 n) (All-cons (FitsEntry kw vw) (k, v) [] (h, omega arith, l) (All-nil (FitsEntry kw vw)))
    ]

-- a put gives a map
pub put_is_mapping : (m : Mapping) (k v : ℕ) → IsMapping m → k < 2 ^ m.key_width → v < 2 ^ m.word_width → IsMapping (put_into m k v)
put_is_mapping m k v w h l = record {
  key_width = w.key_width;
  word_width = w.word_width;
  rises = rises_write 0 k v m.entries (omega arith) w.rises;
  fits =
      let P = FitsEntry m.key_width m.word_width in
      All-append P (entries_below k m.entries ++ entry_of k v) (entries_above k m.entries)
      (All-append P (entries_below k m.entries) (entry_of k v) (All-filter (λ e. nat_lt e.0 k) P m.entries w.fits) (fits_entry_of m.key_width m.word_width k v h l))
      (All-filter (λ e. nat_lt k e.0) P m.entries w.fits);
}

-- whether some entry has a key
abbrev has_key : List (ℕ × ℕ) → ℕ → Bool
has_key [] j = false
has_key (e ∷ es) j = if e.0 == j then true else has_key es j

read-append : (xs ys : List (ℕ × ℕ)) (j : ℕ) → read (xs ++ ys) j ≡ (if has_key xs j then read xs j else read ys j)
read-append [] ys j = refl
read-append (x ∷ xs) ys j = let h = read-append xs ys j in grind (arith, nat_tests)

read-absent : (xs : List (ℕ × ℕ)) (j : ℕ) → has_key xs j ≡ false → read xs j ≡ 0
read-absent [] j h = refl
read-absent (x ∷ xs) j h = let r = read-absent xs j in grind (arith, nat_tests)

read-below : (k j : ℕ) (es : List (ℕ × ℕ)) → j < k → read (entries_below k es) j ≡ read es j
read-below k j [] h = refl
read-below k j (e ∷ es) h = let r = read-below k j es h in grind (arith, nat_tests)

has_key-below : (k j : ℕ) (es : List (ℕ × ℕ)) → j < k → has_key (entries_below k es) j ≡ has_key es j
has_key-below k j [] h = refl
has_key-below k j (e ∷ es) h = let r = has_key-below k j es h in grind (arith, nat_tests)

has_key-not_below : (k j : ℕ) (es : List (ℕ × ℕ)) → k ≤ j → has_key (entries_below k es) j ≡ false
has_key-not_below k j [] h = refl
has_key-not_below k j (e ∷ es) h = let r = has_key-not_below k j es h in grind (arith, nat_tests)

read-above : (k j : ℕ) (es : List (ℕ × ℕ)) → k < j → read (entries_above k es) j ≡ read es j
read-above k j [] h = refl
read-above k j (e ∷ es) h = let r = read-above k j es h in grind (arith, nat_tests)

read-not_above : (k j : ℕ) (es : List (ℕ × ℕ)) → j ≤ k → read (entries_above k es) j ≡ 0
read-not_above k j [] h = refl
read-not_above k j (e ∷ es) h = let r = read-not_above k j es h in grind (arith, nat_tests)

has_key-entry_of : (k v j : ℕ) → has_key (entry_of k v) j ≡ ((k == j) && not (v == 0))
has_key-entry_of k v j = grind (arith, nat_tests)

read-entry_of : (k v j : ℕ) → read (entry_of k v) j ≡ (if k == j then v else 0)
read-entry_of k v j = grind (arith, nat_tests)

-- three parts, of which one has the key
one_part : (k v j : ℕ) (in_low in_here : Bool) (all low here high r : ℕ) → all ≡ (if in_low then low else (if in_here then here else high)) → here ≡ (if k == j then v else 0) → in_here ≡ ((k == j) && not (v == 0)) → (j < k → low ≡ r) → (k ≤ j → in_low ≡ false) → (j < k → in_low ≡ false → r ≡ 0) → (k < j → high ≡ r) → (j ≤ k → high ≡ 0) → all ≡ (if k == j then v else r)
one_part k v j in_low in_here all low here high r a b c d e f g h = grind (arith, nat_tests)

read-parts : (low here high : List (ℕ × ℕ)) (j : ℕ) → read (low ++ here ++ high) j ≡ (if has_key low j then read low j else (if has_key here j then read here j else read high j))
read-parts [] here high j = read-append here high j
read-parts (e ∷ low) here high j = let h = read-parts low here high j in grind (arith, nat_tests)

-- a read over a put
pub read-write : (es : List (ℕ × ℕ)) (k v j : ℕ) → read (write es k v) j ≡ (if k == j then v else read es j)
read-write es k v j =
    one_part k v j (has_key (entries_below k es) j) (has_key (entry_of k v) j) _ _ _ _ (read es j)
    (read-parts (entries_below k es) (entry_of k v) (entries_above k es) j)
    (read-entry_of k v j) (has_key-entry_of k v j)
    (read-below k j es) (has_key-not_below k j es)
    (λ l n. read-absent es j (sym (has_key-below k j es l) ∙ n))
    (read-above k j es) (read-not_above k j es)

read-head : (e : ℕ × ℕ) (es : List (ℕ × ℕ)) → read (e ∷ es) e.0 ≡ e.1
read-head e es = rw (eq-eqb e.0 e.0 refl)

read-tail : (e : ℕ × ℕ) (es : List (ℕ × ℕ)) (j : ℕ) → e.0 ≢ j → read (e ∷ es) j ≡ read es j
read-tail e es j n = rw (ne_eqb e.0 j n)

-- below the first key every read is zero
read-before : (from j : ℕ) (es : List (ℕ × ℕ)) → RisesFrom from es → j < from → read es j ≡ 0
read-before from j [] r h = refl
read-before from j (e ∷ es) r h =
    rw (ne_eqb e.0 j (λ q. omega (arith, r.0))) (read-before (suc e.0) j es r.1 (omega (arith, r.0)))

-- an entry below all others is read, and they have no such key
entry_differs : (kw vw : ℕ) (x : ℕ × ℕ) (xs ys : List (ℕ × ℕ)) → FitsEntry kw vw x → RisesFrom (suc x.0) ys → read (x ∷ xs) x.0 ≢ read ys x.0
entry_differs kw vw x xs ys f s equal =
    let here = read-head x xs in
    let there = read-before (suc x.0) x.0 ys s (omega arith) in
    omega (arith, f.1)

same_pair : (x y : ℕ × ℕ) → x.0 ≡ y.0 → x.1 ≡ y.1 → x ≡ y
same_pair x y p q = ap (λ (k : ℕ). let e : ℕ × ℕ = (k, x.1) in e) p ∙ ap (λ (v : ℕ). let e : ℕ × ℕ = (y.0, v) in e) q

-- what differs beyond one first key differs
tails_differ : (kw : ℕ) (x y : ℕ × ℕ) (xs ys : List (ℕ × ℕ)) → x.0 ≡ y.0 → RisesFrom (suc x.0) xs → RisesFrom (suc y.0) ys → DifferSomewhere kw xs ys → DifferSomewhere kw (x ∷ xs) (y ∷ ys)
tails_differ kw x y xs ys e r s d =
    let j = d.0 in (
      j,
      d.1,
      λ h. d.2 (elim (cases_eq x.0 j) [
        | inl q ↦
            let a = read-before (suc x.0) j xs r (omega arith) in
            let b = read-before (suc y.0) j ys s (omega arith) in
            a ∙ sym b
        | inr n ↦ sym (read-tail x xs j n) ∙ h ∙ read-tail y ys j (λ q. n (e ∙ q))
      ]),
    )

-- entries are equal, or their reads differ at a key of kw bits
entries_differ : (kw vw from : ℕ) (xs ys : List (ℕ × ℕ)) → RisesFrom from xs → RisesFrom from ys → All (FitsEntry kw vw) xs → All (FitsEntry kw vw) ys → (xs ≡ ys) ⊎ DifferSomewhere kw xs ys
entries_differ kw vw from [] [] r s f g = inl refl
entries_differ kw vw from [] (y ∷ ys) r s f g =
    let fits = All-head (FitsEntry kw vw) y ys g in inr (y.0, fits.0, λ e. entry_differs kw vw y ys [] fits tt (sym e))
entries_differ kw vw from (x ∷ xs) [] r s f g =
    let fits = All-head (FitsEntry kw vw) x xs f in inr (x.0, fits.0, entry_differs kw vw x xs [] fits tt)
entries_differ kw vw from (x ∷ xs) (y ∷ ys) r s f g =
    let P = FitsEntry kw vw in
    let first = All-head P x xs f in
    let second = All-head P y ys g in
    elim (cases_order x.0 y.0) [
      | inl e ↦ elim (cases_eq x.1 y.1) [
        | inl word ↦ elim (entries_differ kw vw (suc x.0) xs ys r.1 (rw e s.1) (All-tail P x xs f) (All-tail P y ys g)) [
          | inl rest ↦ inl (let head = same_pair x y e word in cc)
          | inr d ↦ inr (tails_differ kw x y xs ys e r.1 s.1 d)
        ]
        | inr other ↦ inr (x.0, first.0, λ h. other (sym (read-head x xs) ∙ h ∙ ap (λ (k : ℕ). read (y ∷ ys) k) e ∙ read-head y ys))
      ]
      | inr n ↦ elim n [
        | inl l ↦ inr (x.0, first.0, entry_differs kw vw x xs (y ∷ ys) first (omega arith, s.1))
        | inr l ↦ inr (y.0, second.0, λ h. entry_differs kw vw y ys (x ∷ xs) second (omega arith, r.1) (sym h))
      ]
    ]

-- entries are determined by their reads at keys of kw bits
same_entries : (kw vw from : ℕ) (xs ys : List (ℕ × ℕ)) → RisesFrom from xs → RisesFrom from ys → All (FitsEntry kw vw) xs → All (FitsEntry kw vw) ys → ((j : ℕ) → j < 2 ^ kw → read xs j ≡ read ys j) → xs ≡ ys
same_entries kw vw from xs ys r s f g h =
    elim (entries_differ kw vw from xs ys r s f g) [ inl e ↦ e | inr d ↦ absurd (d.2 (h d.0 d.1)) ]

same_record : (m n : Mapping) → m.key_width ≡ n.key_width → m.word_width ≡ n.word_width → m.entries ≡ n.entries → m ≡ n
same_record m n k w e =
    ap (λ (a : ℕ). let r : Mapping = record { key_width = a; word_width = m.word_width; entries = m.entries } in r) k
    ∙ ap (λ (a : ℕ). let r : Mapping = record { key_width = n.key_width; word_width = a; entries = m.entries } in r) w
    ∙ ap (λ (a : List (ℕ × ℕ)). let r : Mapping = record { key_width = n.key_width; word_width = n.word_width; entries = a } in r) e

-- maps of one sort are equal, or their reads differ at a key
pub maps_differ : (m n : Mapping) → IsMapping m → IsMapping n → map_sort m ≡ map_sort n → (m ≡ n) ⊎ DifferSomewhere m.key_width m.entries n.entries
maps_differ m n v w e =
    let keys : m.key_width ≡ n.key_width = cc in
    let words : m.word_width ≡ n.word_width = cc in
    let fits : All (FitsEntry m.key_width m.word_width) n.entries = rw (keys, words) w.fits in
    elim (entries_differ m.key_width m.word_width 0 m.entries n.entries v.rises w.rises v.fits fits) [ inl same ↦ inl (same_record m n keys words same) | inr d ↦ inr d ]

-- maps are equal where their widths and their reads are
pub same_mapping : (m n : Mapping) → IsMapping m → IsMapping n → SameReads m n → m ≡ n
same_mapping m n v w s =
    let fits : All (FitsEntry m.key_width m.word_width) n.entries = rw (s.key_widths, s.word_widths) w.fits in
    same_record m n s.key_widths s.word_widths (same_entries m.key_width m.word_width 0 m.entries n.entries v.rises w.rises v.fits fits s.reads)

pub same_reads : (m n : Mapping) → m ≡ n → SameReads m n
same_reads m n e = record {
  key_widths = ap (λ (r : Mapping). r.key_width) e;
  word_widths = ap (λ (r : Mapping). r.word_width) e;
  reads = λ k _. ap (λ (r : Mapping). read r.entries k) e;
}

read_fits : (kw vw : ℕ) (es : List (ℕ × ℕ)) (k : ℕ) → All (FitsEntry kw vw) es → read es k < 2 ^ vw
read_fits kw vw [] k f = pow_pos vw
read_fits kw vw (e ∷ es) k f =
    let P = FitsEntry kw vw in
    let here = (All-head P e es f).2 in
    let there = read_fits kw vw es k (All-tail P e es f) in
    elim (e.0 == k) as (λ b. (if b then e.1 else read es k) < 2 ^ vw) [ true ↦ here | false ↦ there ]

-- every read is a word
pub read_is_word : (m : Mapping) (k : ℕ) → IsMapping m → read m.entries k < 2 ^ m.word_width
read_is_word m k w = read_fits m.key_width m.word_width m.entries k w.fits
