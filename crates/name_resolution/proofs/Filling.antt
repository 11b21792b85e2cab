-- A map filled with entries whose keys rise.
use Rattle.std.proofs.Common.{arith, ◌≡◌, ℕ, zero, suc, ◌+◌, ◌<◌, ◌≤◌, ◌^◌, Bool, true, false, ◌&&◌, ◌==◌, cond, nat_le, nat_lt, List, [], ◌∷◌, ◌++◌, IsTrue, None, Some, length, take, get_or, filter, refl, sym, ap, ap₂, ◌∙◌, subst}
use Rattle.std.specs.Prelude.{not, if◌then◌else◌}
use Rattle.std.specs.List.{list_all}
use Rattle.std.proofs.lemmas.Bool.{and_parts, and_from, lt-ltb, le-ltb}
use Rattle.std.proofs.lemmas.Bool.Decides.{nat_tests}
use Rattle.std.proofs.lemmas.List.{append-nil, take_more, take_all}
use Rattle.std.proofs.lemmas.List.Elements.{filter_more}
use Rattle.data_value.specs.Sorts.{is_width}
use Rattle.data_value.specs.Maps.{Mapping, rises_from, write, entries_below, entries_above, entry_of, put_into}
use Rattle.name_resolution.specs.Known.{is_pair_within, are_entries, mapping_of}

abbrev is_nonzero : ℕ × ℕ → Bool
is_nonzero e = not (e.1 == 0)

passes_at : {X : Type 0} (p : X → Bool) (xs : List X) (i : ℕ) (x : X) → i < length xs → x ≡ get_or xs i x → list_all p xs ≡ true → p x ≡ true
passes_at p [] i x within is all = absurd (omega arith)
passes_at p (y ∷ xs) zero x within is all = ap p is ∙ (and_parts (p y) (list_all p xs) all).0
passes_at p (y ∷ xs) (suc i) x within is all = passes_at p xs i x (omega arith) is (and_parts (p y) (list_all p xs) all).1

at_least : (a b : ℕ) → nat_le a b ≡ true → a ≤ b
at_least a b h = grind (arith, nat_tests)

below_of : (a b : ℕ) → nat_lt a b ≡ true → a < b
below_of a b h = grind (arith, nat_tests)

-- the first entries
rises_take : (from : ℕ) (es : List (ℕ × ℕ)) (n : ℕ) → rises_from from es ≡ true → rises_from from (take n es) ≡ true
rises_take from [] zero h = refl
rises_take from [] (suc n) h = refl
rises_take from (e ∷ es) zero h = refl
rises_take from (e ∷ es) (suc n) h =
    let p = and_parts (nat_le from e.0) (rises_from (suc e.0) es) h in
    and_from (nat_le from e.0) (rises_from (suc e.0) (take n es)) p.0 (rises_take (suc e.0) es n p.1)

-- the last key is not below where the keys begin
last_above : (from : ℕ) (xs : List (ℕ × ℕ)) (e : ℕ × ℕ) → rises_from from (xs ++ e ∷ []) ≡ true → from ≤ e.0
last_above from [] e h = at_least from e.0 (and_parts (nat_le from e.0) true h).0
last_above from (x ∷ xs) e h =
    let p = and_parts (nat_le from x.0) (rises_from (suc x.0) (xs ++ e ∷ [])) h in
    let a : from ≤ x.0 = at_least from x.0 p.0 in
    let b : suc x.0 ≤ e.0 = last_above (suc x.0) xs e p.1 in
    omega arith

-- all keys before the last one are below it
below_last : (from : ℕ) (xs : List (ℕ × ℕ)) (e : ℕ × ℕ) → rises_from from (xs ++ e ∷ []) ≡ true → entries_below e.0 (filter is_nonzero xs) ≡ filter is_nonzero xs
below_last from [] e h = refl
below_last from (x ∷ xs) e h =
    let p = and_parts (nat_le from x.0) (rises_from (suc x.0) (xs ++ e ∷ [])) h in
    let l : suc x.0 ≤ e.0 = last_above (suc x.0) xs e p.1 in
    let t = lt-ltb x.0 e.0 (omega arith) in
    let rest = below_last (suc x.0) xs e p.1 in
    elim (is_nonzero x) as (λ b. entries_below e.0 (cond b (x ∷ filter is_nonzero xs) (filter is_nonzero xs)) ≡ cond b (x ∷ filter is_nonzero xs) (filter is_nonzero xs)) [
      | true ↦ rw t (ap (λ (l : List (ℕ × ℕ)). x ∷ l) rest)
      | false ↦ rest
    ]

none_above_last : (from : ℕ) (xs : List (ℕ × ℕ)) (e : ℕ × ℕ) → rises_from from (xs ++ e ∷ []) ≡ true → entries_above e.0 (filter is_nonzero xs) ≡ []
none_above_last from [] e h = refl
none_above_last from (x ∷ xs) e h =
    let p = and_parts (nat_le from x.0) (rises_from (suc x.0) (xs ++ e ∷ [])) h in
    let l : suc x.0 ≤ e.0 = last_above (suc x.0) xs e p.1 in
    let t = le-ltb e.0 x.0 (omega arith) in
    let rest = none_above_last (suc x.0) xs e p.1 in
    elim (is_nonzero x) as (λ b. entries_above e.0 (cond b (x ∷ filter is_nonzero xs) (filter is_nonzero xs)) ≡ []) [
      | true ↦ rw t rest
      | false ↦ rest
    ]

as_entry : (e : ℕ × ℕ) → entry_of e.0 e.1 ≡ cond (is_nonzero e) (e ∷ []) []
as_entry e =
    elim (e.1 == 0) as (λ b. (if b then [] else (e.0, e.1) ∷ []) ≡ cond (not b) (e ∷ []) []) [
      | true ↦ refl
      | false ↦ refl
    ]

-- an entry behind all others
write_last : (xs : List (ℕ × ℕ)) (e : ℕ × ℕ) → rises_from 0 (xs ++ e ∷ []) ≡ true → write (filter is_nonzero xs) e.0 e.1 ≡ filter is_nonzero xs ++ cond (is_nonzero e) (e ∷ []) []
write_last xs e h =
    ap₂ (λ (low high : List (ℕ × ℕ)). low ++ entry_of e.0 e.1 ++ high) (below_last 0 xs e h) (none_above_last 0 xs e h)
    ∙ append-nil (filter is_nonzero xs ++ entry_of e.0 e.1)
    ∙ ap (λ (l : List (ℕ × ℕ)). filter is_nonzero xs ++ l) (as_entry e)

module _ (key word : ℕ) (es : List (ℕ × ℕ)) (lawful : IsTrue (are_entries key word es)) where
  parts : (rises_from 0 es ≡ true) × (list_all (is_pair_within key word) es ≡ true)
  parts = and_parts (rises_from 0 es) (list_all (is_pair_within key word) es) (and_parts (is_width key && is_width word) (rises_from 0 es && list_all (is_pair_within key word) es) lawful).1

  -- the map filled with the first entries
  abbrev pub filled_to : ℕ → Mapping
  filled_to i = record { key_width = key; word_width = word; entries = filter (λ e. not (e.1 == 0)) (take i es) }

  module _ (i : ℕ) (e : ℕ × ℕ) (within : i < length es) (is : e ≡ get_or es i e) where
    fits : (nat_lt e.0 (2 ^ key) ≡ true) × (nat_lt e.1 (2 ^ word) ≡ true)
    fits = and_parts (nat_lt e.0 (2 ^ key)) (nat_lt e.1 (2 ^ word)) (passes_at (is_pair_within key word) es i e within is parts.1)

    pub key_fits : (m : Mapping) → m ≡ filled_to i → e.0 < 2 ^ m.key_width
    key_fits m so_far = subst (λ (n : Mapping). e.0 < 2 ^ n.key_width) (sym so_far) (below_of e.0 (2 ^ key) fits.0)

    pub word_fits : (m : Mapping) → m ≡ filled_to i → e.1 < 2 ^ m.word_width
    word_fits m so_far = subst (λ (n : Mapping). e.1 < 2 ^ n.word_width) (sym so_far) (below_of e.1 (2 ^ word) fits.1)

    -- with one entry more
    pub filled_more : (m n : Mapping) → m ≡ filled_to i → n ≡ put_into m e.0 e.1 → n ≡ filled_to (i + 1)
    filled_more m n so_far put =
        let more : take (i + 1) es ≡ take i es ++ e ∷ [] = take_more es i e within ∙ ap (λ x. take i es ++ x ∷ []) (sym is) in
        let rises : rises_from 0 (take i es ++ e ∷ []) ≡ true = sym (ap (rises_from 0) more) ∙ rises_take 0 es (i + 1) parts.0 in
        let one : filter is_nonzero (take (i + 1) es) ≡ filter is_nonzero (take i es) ++ cond (is_nonzero e) (e ∷ []) [] = filter_more is_nonzero es i e within ∙ ap (λ x. filter is_nonzero (take i es) ++ cond (is_nonzero x) (x ∷ []) []) (sym is) in
        put
        ∙ ap (λ (o : Mapping). put_into o e.0 e.1) so_far
        ∙ ap (λ (l : List (ℕ × ℕ)). record { key_width = key; word_width = word; entries = l }) (write_last (take i es) e rises ∙ sym one)

  -- the whole map
  pub filled_whole : (i : ℕ) (m : Mapping) → length es ≤ i → m ≡ filled_to i → Some m ≡ mapping_of key word es
  filled_whole i m end so_far =
      let whole : take i es ≡ es = take_all i es end in
      ap Some (so_far ∙ ap (λ (l : List (ℕ × ℕ)). record { key_width = key; word_width = word; entries = filter is_nonzero l }) whole)
      ∙ ap (λ b. if b then Some (record { key_width = key; word_width = word; entries = filter is_nonzero es }) else None) (sym lawful)
