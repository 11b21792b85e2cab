-- A text that stands at a place of a longer one.
use Rattle.std.proofs.Common.{◌≡◌, ◌≤◌, ◌<◌, ◌+◌, ◌-◌, ℕ, suc, List, [], ◌∷◌, ◌++◌, true, false, length, take, drop, slice_index, slice_range, refl, sym, ◌∙◌, ap, subst, inl, inr, arith, append_assoc, length-append}
use Rattle.std.specs.List.{list_all}
use Rattle.std.proofs.lemmas.Bool.{cases_lt}
use Rattle.std.proofs.lemmas.List.{drop_more, get_or_at, length_push}
use Rattle.sexp_text.specs.Bytes.{is_atom_byte}
use Rattle.sexp_text.specs.Places.{commented, is_atom_at, IsRun}
use Rattle.sexp_text.proofs.Commented.{commented-atom, atom_here}
use Rattle.sexp_text.proofs.Truth.{and_left, and_right}

module _ (bytes : List ℕ) where
  -- the bytes of a text stand from a place on
  abbrev pub IsLaid : ℕ → List ℕ → Type 0
  IsLaid i [] = Unit {0}
  IsLaid i (c ∷ cs) = (i < length bytes) × (slice_index bytes i ≡ c) × IsLaid (i + 1) cs

  pub laid_front : (t u : List ℕ) (i : ℕ) → IsLaid i (t ++ u) → IsLaid i t
  laid_front [] u i h = tt
  laid_front (c ∷ t) u i h = (h.0, h.1, laid_front t u (i + 1) h.2)

  pub laid_behind : (t u : List ℕ) (i e : ℕ) → i + length t ≡ e → IsLaid i (t ++ u) → IsLaid e u
  laid_behind [] u i e end h = let same : i ≡ e = omega arith in subst (λ n. IsLaid n u) same h
  laid_behind (c ∷ t) u i e end h = laid_behind t u (i + 1) e (omega arith) h.2

  pub laid_within : (t : List ℕ) (i e : ℕ) → i + length t ≡ e → IsLaid i t → 0 < length t → e ≤ length bytes
  laid_within [] i e end h some = absurd (omega arith)
  laid_within (c ∷ []) i e end h some = omega (arith, h.0)
  laid_within (c ∷ d ∷ t) i e end h some = laid_within (d ∷ t) (i + 1) e (omega arith) h.2 (omega arith)

  pub laid_first : (t : List ℕ) (i : ℕ) → IsLaid i t → 0 < length t → slice_index bytes i ≡ slice_index t 0
  laid_first [] i h some = absurd (omega arith)
  laid_first (c ∷ t) i h some = h.1

  laid_taken : (t : List ℕ) (i : ℕ) → IsLaid i t → t ≡ take (length t) (drop i bytes)
  laid_taken [] i h = refl
  laid_taken (c ∷ t) i h = ap (λ d. d ∷ t) (sym h.1) ∙ ap (λ u. slice_index bytes i ∷ u) (laid_taken t (i + 1) h.2) ∙ ap (take (suc (length t))) (sym (drop_more bytes i 0 h.0))

  -- the range from its first place to the one behind it is the text
  pub laid_range : (t : List ℕ) (i e : ℕ) → i + length t ≡ e → IsLaid i t → t ≡ slice_range bytes i e
  laid_range t i e end h = let long : length t ≡ e - i = omega arith in laid_taken t i h ∙ ap (λ n. take n (drop i bytes)) long

  -- behind atom bytes that began outside comments it is outside
  pub laid_outside : (t : List ℕ) (i e : ℕ) → i + length t ≡ e → IsLaid i t → list_all is_atom_byte t ≡ true → commented bytes i ≡ false → commented bytes e ≡ false
  laid_outside [] i e end h all outside = let same : i ≡ e = omega arith in subst (λ n. commented bytes n ≡ false) same outside
  laid_outside (c ∷ t) i e end h all outside =
      laid_outside t (i + 1) e (omega arith) h.2 (and_right (is_atom_byte c) _ all) (commented-atom bytes i (ap is_atom_byte h.1 ∙ and_left (is_atom_byte c) _ all) outside)

  laid_atoms : (t : List ℕ) (i e : ℕ) → i + length t ≡ e → IsLaid i t → list_all is_atom_byte t ≡ true → commented bytes i ≡ false → (k : ℕ) → i ≤ k → k < e → is_atom_at bytes k ≡ true
  laid_atoms [] i e end h all outside k low high = absurd (omega arith)
  laid_atoms (c ∷ t) i e end h all outside k low high =
      let atom : is_atom_byte (slice_index bytes i) ≡ true = ap is_atom_byte h.1 ∙ and_left (is_atom_byte c) _ all in
      elim (cases_lt i k) [
        | inl later ↦ laid_atoms t (i + 1) e (omega arith) h.2 (and_right (is_atom_byte c) _ all) (commented-atom bytes i atom outside) k (omega arith) high
        | inr first ↦ (let here : i ≡ k = omega arith in subst (λ n. is_atom_at bytes n ≡ true) here (atom_here bytes i atom outside))
      ]

  pub laid_run : (t : List ℕ) (i e : ℕ) → i + length t ≡ e → IsLaid i t → 0 < length t → list_all is_atom_byte t ≡ true → commented bytes i ≡ false → is_atom_at bytes e ≡ false → IsRun bytes i e
  laid_run t i e end h some all outside behind =
      record { some = omega arith; within = laid_within t i e end h some; all = laid_atoms t i e end h all outside; behind = behind }

-- a text stands behind what comes before it
pub laid_whole : (before t : List ℕ) → IsLaid (before ++ t) (length before) t
laid_whole before [] = tt
laid_whole before (c ∷ t) =
    let next = laid_whole (before ++ c ∷ []) t in (
      omega (arith, length-append before (c ∷ t)),
      get_or_at before c t 0 (length before) refl,
      subst (λ n. IsLaid (before ++ c ∷ t) n t) (length_push before c) (subst (λ u. IsLaid u (length (before ++ c ∷ [])) t) (append_assoc before (c ∷ []) t) next),
    )
