-- Whether a place is in a comment, from one place to the next.
use Rattle.std.proofs.Common.{◌≡◌, ◌≢◌, ℕ, ◌+◌, List, Bool, true, false, not, ◌&&◌, ◌||◌, ◌==◌, slice_index, refl, sym, ◌∙◌, ap, add-one, arith, ◌<◌, ◌≤◌, inl, inr, subst, suc}
use Rattle.std.proofs.lemmas.Bool.{cases_lt}
use Rattle.std.proofs.lemmas.Bool.Decides.{nat_tests}
use Rattle.sexp_text.specs.Places.{commented, is_atom_at, is_gap, IsGap}
use Rattle.sexp_text.specs.Bytes.{is_atom_byte, is_blank}
use Rattle.sexp_text.proofs.Truth.{or_true, differs}

pub commented-step : (bytes : List ℕ) (k : ℕ) → commented bytes (k + 1) ≡ ((slice_index bytes k == 59 || commented bytes k) && not (slice_index bytes k == 10))
unfolding commented
commented-step bytes k = rw add-one refl

pub commented-atom : (bytes : List ℕ) (k : ℕ) → is_atom_byte (slice_index bytes k) ≡ true → commented bytes k ≡ false → commented bytes (k + 1) ≡ false
commented-atom bytes k a f =
    commented-step bytes k
    ∙ ap (λ t. (t || commented bytes k) && not (slice_index bytes k == 10)) (differs is_atom_byte (slice_index bytes k) 59 a refl)
    ∙ ap (λ t. t && not (slice_index bytes k == 10)) f

pub atom_here : (bytes : List ℕ) (k : ℕ) → is_atom_byte (slice_index bytes k) ≡ true → commented bytes k ≡ false → is_atom_at bytes k ≡ true
atom_here bytes k a f = ap (λ t. t && not (commented bytes k)) a ∙ ap not f

-- what holds from s to e, and at e, holds from s to e + 1
pub all_more : (P : ℕ → Type 0) (s e : ℕ) → ((k : ℕ) → s ≤ k → k < e → P k) → P e → (k : ℕ) → s ≤ k → k < e + 1 → P k
all_more P s e below here k low high =
    elim (cases_lt k e) [ inl less ↦ below k low less | inr more ↦ (let same : e ≡ k = omega arith in subst P same here) ]

pub commented-plain : (bytes : List ℕ) (k : ℕ) → slice_index bytes k ≢ 59 → commented bytes k ≡ false → commented bytes (k + 1) ≡ false
commented-plain bytes k plain f =
    let unlike : (slice_index bytes k == 59) ≡ false = grind (arith, nat_tests) in
    commented-step bytes k
    ∙ ap (λ t. (t || commented bytes k) && not (slice_index bytes k == 10)) unlike
    ∙ ap (λ t. t && not (slice_index bytes k == 10)) f

-- behind a `;` or in a comment, a line feed ends it
pub commented-more : (bytes : List ℕ) (k : ℕ) → (slice_index bytes k == 59 || commented bytes k) ≡ true → commented bytes (k + 1) ≡ not (slice_index bytes k == 10)
commented-more bytes k h = commented-step bytes k ∙ ap (λ t. t && not (slice_index bytes k == 10)) h

pub one_gap : (bytes : List ℕ) (k : ℕ) → slice_index bytes k < 128 → is_gap bytes k ≡ true → IsGap bytes k (k + 1)
one_gap bytes k ascii h =
    record {
      order = omega arith;
      all = λ n low high. let same : k ≡ n = omega arith in subst (λ m. is_gap bytes m ≡ true) same h;
      ascii = λ n low high. let same : k ≡ n = omega arith in subst (λ m. slice_index bytes m < 128) same ascii;
    }

pub blank_gap : (bytes : List ℕ) (k : ℕ) → slice_index bytes k < 128 → is_blank (slice_index bytes k) ≡ true → IsGap bytes k (k + 1)
blank_gap bytes k ascii h = one_gap bytes k ascii (or_true (commented bytes (suc k)) (is_blank (slice_index bytes k)) h)

blank_feed : (b : ℕ) (t : Bool) → t ≡ true → ((t && not (b == 10)) || is_blank b) ≡ true
blank_feed b t h =
    elim (b == 10) as (λ v. (b == 10) ≡ v → ((t && not v) || is_blank b) ≡ true) [
      | true ↦ λ e. let feed : b ≡ 10 = grind (arith, nat_tests) in or_true _ _ (subst (λ n. is_blank n ≡ true) (sym feed) refl)
      | false ↦ λ e. ap (λ u. (u && true) || is_blank b) h
    ] refl

pub comment_gap : (bytes : List ℕ) (k : ℕ) → slice_index bytes k < 128 → (slice_index bytes k == 59 || commented bytes k) ≡ true → IsGap bytes k (k + 1)
unfolding commented
comment_gap bytes k ascii h = one_gap bytes k ascii (blank_feed (slice_index bytes k) _ h)

pub in_comment : (bytes : List ℕ) (k : ℕ) → commented bytes k ≡ true → (slice_index bytes k == 59 || commented bytes k) ≡ true
in_comment bytes k h = or_true _ _ h

pub at_semicolon : (bytes : List ℕ) (k : ℕ) → slice_index bytes k ≡ 59 → (slice_index bytes k == 59 || commented bytes k) ≡ true
at_semicolon bytes k h = ap (λ n. n == 59 || commented bytes k) h

pub commented-zero : (bytes : List ℕ) → commented bytes 0 ≡ false
unfolding commented
commented-zero bytes = refl
