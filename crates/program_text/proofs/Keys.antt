-- The keys of the rows of a table, beside its rows.
use Rattle.std.proofs.Common.{arith, ◌≡◌, ◌==◌, ◌||◌, ◌<◌, ℕ, zero, suc, List, [], ◌∷◌, map, length, get_or, slice_get, slice_set, refl, sym, ap, ap₂, ◌∙◌}
use Rattle.std.specs.List.{list_any}
use Rattle.sort_term.specs.declared.program.Row.{Row}
use Rattle.program_text.specs.Rows.{list_at}

-- the keys of rows
abbrev pub keys_of : List Row → List ℕ
keys_of rows = map (λ r. r.key) rows

-- a list that is there is the one at its place
pub list_there : (lists : List (List Row)) (i : ℕ) (rows : List Row) → i < length lists → rows ≡ get_or lists i rows → rows ≡ list_at (slice_get lists i)
list_there [] i rows within is = absurd (omega arith)
list_there (x ∷ lists) zero rows within is = is
list_there (x ∷ lists) (suc i) rows within is = list_there lists i rows (omega arith) is

-- the keys at a place are those of the rows there
pub keys_there : (lists : List (List Row)) (keys : List (List ℕ)) (i : ℕ) (ks : List ℕ) → map keys_of lists ≡ keys → i < length lists → ks ≡ get_or keys i ks → ks ≡ keys_of (list_at (slice_get lists i))
keys_there [] keys i ks all within is = absurd (omega arith)
keys_there (x ∷ lists) [] i ks all within is = absurd cc
keys_there (x ∷ lists) (k ∷ keys) zero ks all within is = let first : keys_of x ≡ k = cc in is ∙ sym first
keys_there (x ∷ lists) (k ∷ keys) (suc i) ks all within is = let rest : map keys_of lists ≡ keys = cc in keys_there lists keys i ks rest (omega arith) is

-- a key is among the keys exactly where a row has it
pub has_of : (rows : List Row) (key : ℕ) → list_any (λ k. key == k) (keys_of rows) ≡ list_any (λ r. r.key == key) rows
has_of [] key = refl
has_of (r ∷ rows) key = ap₂ ◌||◌ (same key r.key) (has_of rows key)
  where
    same : (a b : ℕ) → (a == b) ≡ (b == a)
    same a b = grind (arith)

-- one row more at a place is one key more there
pub keys_set : (lists : List (List Row)) (i : ℕ) (rows : List Row) → map keys_of (slice_set lists i rows) ≡ slice_set (map keys_of lists) i (keys_of rows)
keys_set [] i rows = refl
keys_set (x ∷ lists) zero rows = refl
keys_set (x ∷ lists) (suc i) rows = ap (λ ks. keys_of x ∷ ks) (keys_set lists i rows)

pub length_set : {X : Type 0} (xs : List X) (i : ℕ) (x : X) → length (slice_set xs i x) ≡ length xs
length_set [] i x = refl
length_set (y ∷ xs) zero x = refl
length_set (y ∷ xs) (suc i) x = ap suc (length_set xs i x)
