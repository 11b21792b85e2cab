-- A text spells one list of forms.
use Rattle.std.proofs.Common.{◌≡◌, ◌≢◌, ◌≤◌, ◌<◌, ◌+◌, ◌⊎◌, ℕ, suc, List, ◌∷◌, true, false, ◌||◌, length, slice_index, slice_range, Some, refl, sym, ◌∙◌, ap, subst, inl, inr, arith}
use Rattle.std.proofs.lemmas.Bool.{cases_lt}
use Rattle.std.specs.Char.{is_ascii_digit}
use Rattle.sexp_text.specs.Places.{commented, is_gap, IsGap, IsRun, Stands}
use Rattle.sexp_text.specs.Bytes.{is_blank, is_atom_byte}
use Rattle.sexp_text.specs.Numbers.{number_of}
use Rattle.sexp_text.specs.Forms.{word_form, number_form, list_form}
use Rattle.sexp_text.specs.Spells.{Spells, none, word, number, list}
use Rattle.sexp_text.specs.declared.form.Form.{Form}
use Rattle.sexp_text.proofs.Commented.{commented-atom, commented-plain}
use Rattle.sexp_text.proofs.Truth.{and_left, and_right, not_true}
use Rattle.sexp_text.proofs.Clear.{run_unique}
use Rattle.sexp_text.proofs.ByteClasses.{atom_not_blank}

-- a place outside comments with no blank
gap_is : (bytes : List ℕ) (k : ℕ) → commented bytes (k + 1) ≡ false → is_blank (slice_index bytes k) ≡ false → is_gap bytes k ≡ false
gap_is bytes k c b = let next : suc k ≡ k + 1 = omega arith in ap (λ n. commented bytes n || is_blank (slice_index bytes k)) next ∙ ap (λ t. t || is_blank (slice_index bytes k)) c ∙ b

solid_paren : (bytes : List ℕ) (c k : ℕ) → Stands bytes k c → c ≢ 59 → is_blank c ≡ false → is_gap bytes k ≡ false
solid_paren bytes c k s other b = gap_is bytes k (commented-plain bytes k (λ e. other (sym s.is ∙ e)) s.outside) (ap is_blank s.is ∙ b)

solid_run : (bytes : List ℕ) (s e : ℕ) → IsRun bytes s e → is_gap bytes s ≡ false
solid_run bytes s e r =
    let here = r.all s (omega arith) r.some in
    let atom : is_atom_byte (slice_index bytes s) ≡ true = and_left _ _ here in
    gap_is bytes s (commented-atom bytes s atom (not_true _ (and_right _ _ here))) (atom_not_blank (slice_index bytes s) atom)

-- where a gap ends: at a `)`, or at the end of the text
abbrev IsStop : List ℕ → ℕ → Type 0
IsStop bytes j = Stands bytes j 41 ⊎ (j ≡ length bytes)

stop_within : (bytes : List ℕ) (j : ℕ) → IsStop bytes j → j ≤ length bytes
stop_within bytes j (inl s) = omega (arith, s.within)
stop_within bytes j (inr e) = omega arith

-- what begins behind a gap
record Begins (bytes : List ℕ) (i s : ℕ) : Type 0 where
  gap : IsGap bytes i s
  solid : is_gap bytes s ≡ false
  within : s < length bytes

meet : (bytes : List ℕ) (i s t : ℕ) → Begins bytes i s → Begins bytes i t → s ≡ t
meet bytes i s t a b =
    elim (cases_lt s t) [
      | inl less ↦ (let gap : is_gap bytes s ≡ true = b.gap.all s a.gap.order less in let solid = a.solid in cc)
      | inr more ↦ elim (cases_lt t s) [
        | inl less ↦ (let gap : is_gap bytes t ≡ true = a.gap.all t b.gap.order less in let solid = b.solid in cc)
        | inr same ↦ omega arith
      ]
    ]

-- a gap that ends at a stop meets what begins behind the gap only at a `)`
meet_stop : (bytes : List ℕ) (i j s : ℕ) → IsGap bytes i j → IsStop bytes j → Begins bytes i s → slice_index bytes s ≡ 41
meet_stop bytes i j s g (inl c) b = let same : j ≡ s = meet bytes i j s (record { gap = g; solid = solid_paren bytes 41 j c (λ e. absurd (omega arith)) refl; within = c.within }) b in subst (λ n. slice_index bytes n ≡ 41) same c.is
meet_stop bytes i j s g (inr e) b = let gap : is_gap bytes s ≡ true = g.all s b.gap.order (omega (arith, b.within)) in let solid = b.solid in cc

stops_meet : (bytes : List ℕ) (i j k : ℕ) → IsGap bytes i j → IsStop bytes j → IsGap bytes i k → IsStop bytes k → j ≡ k
stops_meet bytes i j k g (inl c) h (inl d) =
    meet bytes i j k (record { gap = g; solid = solid_paren bytes 41 j c (λ e. absurd (omega arith)) refl; within = c.within }) (record { gap = h; solid = solid_paren bytes 41 k d (λ e. absurd (omega arith)) refl; within = d.within })
stops_meet bytes i j k g (inl c) h (inr e) = let gap : is_gap bytes j ≡ true = h.all j g.order (omega (arith, c.within)) in let solid = solid_paren bytes 41 j c (λ e. absurd (omega arith)) refl in cc
stops_meet bytes i j k g (inr e) h (inl d) = let gap : is_gap bytes k ≡ true = g.all k h.order (omega (arith, d.within)) in let solid = solid_paren bytes 41 k d (λ e. absurd (omega arith)) refl in cc
stops_meet bytes i j k g (inr e) h (inr f) = omega arith

begins_run : (bytes : List ℕ) (i s e : ℕ) → IsGap bytes i s → IsRun bytes s e → Begins bytes i s
begins_run bytes i s e g r = record { gap = g; solid = solid_run bytes s e r; within = omega (arith, r.some, r.within) }

begins_list : (bytes : List ℕ) (i s : ℕ) → IsGap bytes i s → Stands bytes s 40 → Begins bytes i s
begins_list bytes i s g o = record { gap = g; solid = solid_paren bytes 40 s o (λ e. absurd (omega arith)) refl; within = o.within }

-- a run begins with no parenthesis
run_not : (bytes : List ℕ) (c s e : ℕ) → is_atom_byte c ≡ false → IsRun bytes s e → slice_index bytes s ≡ c → ⊥
run_not bytes c s e f r h = let atom : is_atom_byte (slice_index bytes s) ≡ true = and_left _ _ (r.all s (omega arith) r.some) in let other : is_atom_byte (slice_index bytes s) ≡ is_atom_byte c = ap is_atom_byte h in cc

word_same : (bytes : List ℕ) (n m : List ℕ) (s t e f : ℕ) (fs gs : List Form) → n ≡ slice_range bytes s e → m ≡ slice_range bytes t f → s ≡ t → e ≡ f → fs ≡ gs → word_form n s e ∷ fs ≡ word_form m t f ∷ gs
word_same bytes n m s t e f fs gs a b c d g = let names : n ≡ m = cc in cc

number_same : (bytes : List ℕ) (n m s t e f : ℕ) (fs gs : List Form) → number_of (slice_range bytes s e) ≡ Some n → number_of (slice_range bytes t f) ≡ Some m → s ≡ t → e ≡ f → fs ≡ gs → number_form n s e ∷ fs ≡ number_form m t f ∷ gs
number_same bytes n m s t e f fs gs a b c d g =
    let texts : slice_range bytes s e ≡ slice_range bytes t f = cc in
    let some : Some n ≡ Some m = sym a ∙ ap number_of texts ∙ b in
    let values : n ≡ m = cc in
    cc

list_same : (xs ys : List Form) (s t e f : ℕ) (fs gs : List Form) → xs ≡ ys → s ≡ t → e ≡ f → fs ≡ gs → list_form xs s (e + 1) ∷ fs ≡ list_form ys t (f + 1) ∷ gs
list_same xs ys s t e f fs gs a c d g = cc

-- what two spellings from one place up to a stop have is the same
both : (bytes : List ℕ) (fs gs : List Form) (i j k : ℕ) → Spells bytes fs i j → IsStop bytes j → Spells bytes gs i k → IsStop bytes k → (j ≡ k) × (fs ≡ gs)
both bytes fs gs i j k (none g) p (none h) q = (stops_meet bytes i j k g p h q, refl)
both bytes fs gs i j k (none g) p (word {s = t} {e = f} h v u) q = absurd (run_not bytes 41 t f refl v.run (meet_stop bytes i j t g p (begins_run bytes i t f h v.run)))
both bytes fs gs i j k (none g) p (number {s = t} {e = f} h v u) q = absurd (run_not bytes 41 t f refl v.run (meet_stop bytes i j t g p (begins_run bytes i t f h v.run)))
both bytes fs gs i j k (none g) p (list {s = t} h o inner c u) q = let byte = meet_stop bytes i j t g p (begins_list bytes i t h o) in absurd (omega (arith, o.is, byte))
both bytes fs gs i j k (word {s = s} {e = e} g w r) p (none h) q = absurd (run_not bytes 41 s e refl w.run (meet_stop bytes i k s h q (begins_run bytes i s e g w.run)))
both bytes fs gs i j k (number {s = s} {e = e} g w r) p (none h) q = absurd (run_not bytes 41 s e refl w.run (meet_stop bytes i k s h q (begins_run bytes i s e g w.run)))
both bytes fs gs i j k (list {s = s} g o inner c r) p (none h) q = let byte = meet_stop bytes i k s h q (begins_list bytes i s g o) in absurd (omega (arith, o.is, byte))
both bytes fs gs i j k (word {s = s} {e = e} {name = n} {rest = us} g w r) p (word {s = t} {e = f} {name = m} {rest = vs} h v u) q =
    let same = meet bytes i s t (begins_run bytes i s e g w.run) (begins_run bytes i t f h v.run) in
    let ends = run_unique bytes s e f w.run (subst (λ n. IsRun bytes n f) (sym same) v.run) in
    let more = both bytes us vs e j k r p (subst (λ n. Spells bytes vs n k) (sym ends) u) q in
    (more.0, word_same bytes n m s t e f us vs w.spelled v.spelled same ends more.1)
both bytes fs gs i j k (number {s = s} {e = e} {n = n} {rest = us} g w r) p (number {s = t} {e = f} {n = m} {rest = vs} h v u) q =
    let same = meet bytes i s t (begins_run bytes i s e g w.run) (begins_run bytes i t f h v.run) in
    let ends = run_unique bytes s e f w.run (subst (λ n. IsRun bytes n f) (sym same) v.run) in
    let more = both bytes us vs e j k r p (subst (λ n. Spells bytes vs n k) (sym ends) u) q in
    (more.0, number_same bytes n m s t e f us vs w.value v.value same ends more.1)
both bytes fs gs i j k (list {s = s} {e = e} {inner = xs} {rest = us} g o inside c r) p (list {s = t} {e = f} {inner = ys} {rest = vs} h o' inside' c' u) q =
    let same = meet bytes i s t (begins_list bytes i s g o) (begins_list bytes i t h o') in
    let inner = both bytes xs ys (s + 1) e f inside (inl c) (subst (λ n. Spells bytes ys (n + 1) f) (sym same) inside') (inl c') in
    let more = both bytes us vs (e + 1) j k r p (subst (λ n. Spells bytes vs (n + 1) k) (sym inner.0) u) q in
    (more.0, list_same xs ys s t e f us vs inner.1 same inner.0 more.1)
both bytes fs gs i j k (word {s = s} {e = e} g w r) p (number {s = t} {e = f} h v u) q =
    let same = meet bytes i s t (begins_run bytes i s e g w.run) (begins_run bytes i t f h v.run) in
    let digit = ap (λ n. is_ascii_digit (slice_index bytes n)) same ∙ v.first in
    let none_ = w.first in
    cc
both bytes fs gs i j k (number {s = s} {e = e} g w r) p (word {s = t} {e = f} h v u) q =
    let same = meet bytes i s t (begins_run bytes i s e g w.run) (begins_run bytes i t f h v.run) in
    let none_ = ap (λ n. is_ascii_digit (slice_index bytes n)) same ∙ v.first in
    let digit = w.first in
    cc
both bytes fs gs i j k (word {s = s} {e = e} g w r) p (list {s = t} h o inner c u) q =
    let same = meet bytes i s t (begins_run bytes i s e g w.run) (begins_list bytes i t h o) in
    absurd (run_not bytes 40 s e refl w.run (ap (slice_index bytes) same ∙ o.is))
both bytes fs gs i j k (number {s = s} {e = e} g w r) p (list {s = t} h o inner c u) q =
    let same = meet bytes i s t (begins_run bytes i s e g w.run) (begins_list bytes i t h o) in
    absurd (run_not bytes 40 s e refl w.run (ap (slice_index bytes) same ∙ o.is))
both bytes fs gs i j k (list {s = s} g o inner c r) p (word {s = t} {e = f} h v u) q =
    let same = meet bytes i t s (begins_run bytes i t f h v.run) (begins_list bytes i s g o) in
    absurd (run_not bytes 40 t f refl v.run (ap (slice_index bytes) same ∙ o.is))
both bytes fs gs i j k (list {s = s} g o inner c r) p (number {s = t} {e = f} h v u) q =
    let same = meet bytes i t s (begins_run bytes i t f h v.run) (begins_list bytes i s g o) in
    absurd (run_not bytes 40 t f refl v.run (ap (slice_index bytes) same ∙ o.is))

-- a text spells one list of forms
pub unique : (bytes : List ℕ) (fs gs : List Form) → Spells bytes fs 0 (length bytes) → Spells bytes gs 0 (length bytes) → fs ≡ gs
unique bytes fs gs f g = (both bytes fs gs 0 (length bytes) (length bytes) f (inr refl) g (inr refl)).1
