-- The test for values tells them. These are proofs: they stand here since the law of `Ground`, which rests on them, may cite no file of proofs.
use Rattle.std.proofs.Common.{◌≤◌, ◌^◌, ℕ, suc, ◌&&◌, nat_lt, nat_le, List, [], ◌∷◌, All, Decides, refl}
use Rattle.std.specs.List.{list_all}
use Rattle.std.proofs.lemmas.Bool.Decides.{Decides-and, Decides-ltb, Decides-like, Decides-by_and}
use Rattle.std.proofs.lemmas.Bool.{leb-true, le-leb}
use Rattle.data_value.specs.declared.Scalar.TheVariants.{Flag, Bits}
use Rattle.data_value.specs.declared.Value.{Value}
use Rattle.data_value.specs.declared.Value.TheVariants.{One, Map}
use Rattle.data_value.specs.Sorts.{IsWidth, is_width}
use Rattle.data_value.specs.Maps.{Mapping, IsMapping, is_mapping, FitsEntry, fits_entry, RisesFrom, rises_from}
use Rattle.data_value.specs.Values.{IsValue, is_value}

decides_leb : (m n : ℕ) → Decides (nat_le m n) (m ≤ n)
decides_leb m n = (leb-true m n, le-leb m n)

pub decides_width : (w : ℕ) → Decides (is_width w) (IsWidth w)
decides_width w = Decides-and (nat_le 1 w) (nat_le w 64) (decides_leb 1 w) (decides_leb w 64)

decides_rises : (from : ℕ) (es : List (ℕ × ℕ)) → Decides (rises_from from es) (RisesFrom from es)
decides_rises from [] = (λ _. tt, λ _. refl)
decides_rises from (e ∷ es) = Decides-and (nat_le from e.0) (rises_from (suc e.0) es) (decides_leb from e.0) (decides_rises (suc e.0) es)

decides_entry : (k v : ℕ) (e : ℕ × ℕ) → Decides (fits_entry k v e) (FitsEntry k v e)
decides_entry k v e =
    Decides-like _ (λ p. (p.0.0, p.0.1, p.1)) (λ p. ((p.0, p.1), p.2))
    (Decides-and (nat_lt e.0 (2 ^ k) && nat_le 1 e.1) (nat_lt e.1 (2 ^ v))
    (Decides-and (nat_lt e.0 (2 ^ k)) (nat_le 1 e.1) (Decides-ltb e.0 (2 ^ k)) (decides_leb 1 e.1))
    (Decides-ltb e.1 (2 ^ v)))

decides_entries : (k v : ℕ) (es : List (ℕ × ℕ)) → Decides (list_all (fits_entry k v) es) (All (FitsEntry k v) es)
decides_entries k v es =
    Decides-by_and (fits_entry k v) (FitsEntry k v) (list_all (fits_entry k v)) (decides_entry k v) refl (λ _ _. refl) es

decides_mapping : (m : Mapping) → Decides (is_mapping m) (IsMapping m)
decides_mapping m =
    Decides-like _
    (λ p. record { key_width = p.0.0.0; word_width = p.0.0.1; rises = p.0.1; fits = p.1 })
    (λ w. (((w.key_width, w.word_width), w.rises), w.fits))
    (Decides-and (is_width m.key_width && is_width m.word_width && rises_from 0 m.entries) (list_all (fits_entry m.key_width m.word_width) m.entries)
    (Decides-and (is_width m.key_width && is_width m.word_width) (rises_from 0 m.entries)
    (Decides-and (is_width m.key_width) (is_width m.word_width) (decides_width m.key_width) (decides_width m.word_width))
    (decides_rises 0 m.entries))
    (decides_entries m.key_width m.word_width m.entries))

pub decides_value : (v : Value) → Decides (is_value v) (IsValue v)
decides_value (One (Flag b)) = (λ _. tt, λ _. refl)
decides_value (One (Bits w x)) = Decides-and (is_width w) (nat_lt x (2 ^ w)) (decides_width w) (Decides-ltb x (2 ^ w))
decides_value (Map m) = decides_mapping m
