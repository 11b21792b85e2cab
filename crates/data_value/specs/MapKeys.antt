-- Maps as keys of a hash table: the test for equal maps, and what a map feeds a hasher. That the test is an equivalence, and that
-- equal maps feed the same, stands here since the laws of an impl may cite no file of proofs.
use Rattle.std.specs.Prelude.{ℕ, ◌++◌, Bool, ◌&&◌, ◌==◌}
use Rattle.std.specs.Cmp.{IsEquivalence, nat_eq_equiv, and_equiv, on_equiv}
use Rattle.std.specs.Cmp.Lexicographic.{pointwise, lists_equiv}
use Rattle.std.specs.Hash.{HashWrites, Alike, on_Alike, and-Alike, items_Alike, same_Alike, slice, u8, u64}
use Rattle.std.proofs.lemmas.Bool.Decides.{Decides-eqb}
use Rattle.data_value.specs.Maps.{Mapping}

-- Whether two entries have the same key and the same word.
abbrev pub same_entry : ℕ × ℕ → ℕ × ℕ → Bool
same_entry p q = (p.0 == q.0) && (p.1 == q.1)

-- Whether two maps have the same widths and the same entries.
abbrev pub same_mapping : Mapping → Mapping → Bool
same_mapping a b = ((a.key_width == b.key_width) && (a.word_width == b.word_width)) && pointwise same_entry a.entries b.entries

-- What an entry and a map feed a hasher.
abbrev pub entry_input : ℕ × ℕ → HashWrites
entry_input p = u64 p.0 ++ u64 p.1

abbrev pub mapping_input : Mapping → HashWrites
mapping_input m = (u8 m.key_width ++ u8 m.word_width) ++ slice entry_input m.entries

same_entry_equiv : IsEquivalence same_entry
same_entry_equiv = and_equiv (on_equiv (λ p. p.0) nat_eq_equiv) (on_equiv (λ p. p.1) nat_eq_equiv)

pub same_mapping_equiv : IsEquivalence same_mapping
same_mapping_equiv =
    and_equiv (and_equiv (on_equiv (λ m. m.key_width) nat_eq_equiv) (on_equiv (λ m. m.word_width) nat_eq_equiv)) (on_equiv (λ m. m.entries) (lists_equiv same_entry_equiv))

entry_alike : Alike same_entry entry_input
entry_alike = and-Alike (on_Alike (λ p. p.0) (same_Alike u64 Decides-eqb)) (on_Alike (λ p. p.1) (same_Alike u64 Decides-eqb))

pub mapping_alike : Alike same_mapping mapping_input
mapping_alike =
    and-Alike (and-Alike (on_Alike (λ m. m.key_width) (same_Alike u8 Decides-eqb)) (on_Alike (λ m. m.word_width) (same_Alike u8 Decides-eqb))) (on_Alike (λ m. m.entries) (items_Alike entry_alike))
