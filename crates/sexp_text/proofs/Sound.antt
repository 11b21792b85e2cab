-- A text has no fault exactly where it is in the grammar.
use Rattle.std.proofs.Common.{◌≡◌, ◌≢◌, ◌≤◌, ◌<◌, ◌+◌, ◌-◌, ◌==◌, ℕ, zero, suc, List, map, true, ◌&&◌, ◌||◌, length, slice_index, sym, ◌∙◌, ap, subst, inl, inr, arith}
use Rattle.std.proofs.lemmas.Bool.Decides.{nat_tests}
use Rattle.sexp_text.specs.Places.{commented, is_gap, IsGap}
use Rattle.sexp_text.specs.Bytes.{is_blank}
use Rattle.sexp_text.specs.Spells.{IsWord, IsNumber, Spells, none, word, number, list}
use Rattle.sexp_text.specs.Forms.{greatest, depth_of}
use Rattle.sexp_text.specs.Text.{IsText}
use Rattle.sexp_text.specs.Faults.{IsFaultless}
use Rattle.sexp_text.specs.declared.fault.TextFault.TheVariants.{Deep}
use Rattle.sexp_text.specs.Clear.{IsClear, IsValid}
use Rattle.sexp_text.specs.declared.form.Form.{Form}
use Rattle.sexp_text.proofs.Commented.{commented-step}
use Rattle.sexp_text.proofs.Equations.{depth-word, depth-number, depth-list}
use Rattle.sexp_text.proofs.Truth.{and_left, or_cases}
use Rattle.sexp_text.proofs.Clear.{clear_comment, clear_semicolon, clear_blank, clear_open, clear_close, clear_run, clear_zero, faultless_end, nesting_is}

-- a place of a gap leaves everything clear
clear_gap_place : (bytes : List ℕ) (depth k : ℕ) → IsClear bytes depth k → k < length bytes → slice_index bytes k < 128 → is_gap bytes k ≡ true → IsClear bytes depth (k + 1)
clear_gap_place bytes depth k c within ascii h =
    elim (or_cases (commented bytes (suc k)) (is_blank (slice_index bytes k)) h) [
      | inl e ↦ (
          let next : suc k ≡ k + 1 = omega arith in
          let before : ((slice_index bytes k == 59 || commented bytes k) && _) ≡ true = sym (commented-step bytes k) ∙ ap (commented bytes) (sym next) ∙ e in
          elim (or_cases (slice_index bytes k == 59) (commented bytes k) (and_left _ _ before)) [
            | inl s ↦ clear_semicolon bytes depth k c within (grind (arith, nat_tests))
            | inr d ↦ clear_comment bytes depth k c within ascii d
          ]
          )
      | inr e ↦ clear_blank bytes depth k c within ascii e
    ]

clear_gap_from : (bytes : List ℕ) (depth i n : ℕ) → i + n ≤ length bytes → IsGap bytes i (i + n) → IsClear bytes depth i → IsClear bytes depth (i + n)
clear_gap_from bytes depth i zero le g c = let same : i ≡ i + 0 = omega arith in subst (λ k. IsClear bytes depth k) same c
clear_gap_from bytes depth i (suc n) le g c =
    let front : IsGap bytes i (i + n) = record { order = omega arith; all = λ k low high. g.all k low (omega arith); ascii = λ k low high. g.ascii k low (omega arith) } in
    let before = clear_gap_from bytes depth i n (omega arith) front c in
    let same : i + n + 1 ≡ i + suc n = omega arith in
    subst (λ k. IsClear bytes depth k) same (clear_gap_place bytes depth (i + n) before (omega arith) (g.ascii (i + n) (omega arith) (omega arith)) (g.all (i + n) (omega arith) (omega arith)))

clear_gap : (bytes : List ℕ) (depth i j : ℕ) → j ≤ length bytes → IsGap bytes i j → IsClear bytes depth i → IsClear bytes depth j
clear_gap bytes depth i j le g c =
    let end : i + (j - i) ≡ j = omega (arith, g.order) in
    subst (λ k. IsClear bytes depth k) end (clear_gap_from bytes depth i (j - i) (omega arith) (subst (λ k. IsGap bytes i k) (sym end) g) c)

word_valid : (bytes : List ℕ) (s e : ℕ) (name : List ℕ) → IsWord bytes s e name → IsValid bytes s e
word_valid bytes s e name w = record { number = λ d. let first = w.first in cc; word = λ d. w.short }

number_valid : (bytes : List ℕ) (s e n : ℕ) → IsNumber bytes s e n → IsValid bytes s e
number_valid bytes s e n w = record { number = λ d none_. let value = w.value in cc; word = λ d. let first = w.first in cc }

module _ (bytes : List ℕ) where
  -- forms that aren't too deep leave everything clear
  clear_spells : (fs : List Form) (depth i j : ℕ) → j ≤ length bytes → depth + greatest (map depth_of fs) ≤ 64 → Spells bytes fs i j → IsClear bytes depth i → IsClear bytes depth j
  clear_spells fs depth i j le shallow (none g) c = clear_gap bytes depth i j le g c
  clear_spells fs depth i j le shallow (word {s = s} {e = e} {name = n} {rest = us} g w r) c =
      clear_spells us depth e j le (omega arith) r (clear_run bytes depth s e (clear_gap bytes depth i s (omega (arith, w.run.some, w.run.within)) g c) w.run (word_valid bytes s e n w))
  clear_spells fs depth i j le shallow (number {s = s} {e = e} {n = n} {rest = us} g w r) c =
      clear_spells us depth e j le (omega arith) r (clear_run bytes depth s e (clear_gap bytes depth i s (omega (arith, w.run.some, w.run.within)) g c) w.run (number_valid bytes s e n w))
  clear_spells fs depth i j le shallow (list {s = s} {e = e} {inner = xs} {rest = us} g o inner close r) c =
      let deeper = depth-list xs s (e + 1) in
      let at_open = clear_gap bytes depth i s (omega (arith, o.within)) g c in
      let inside = clear_open bytes depth s at_open o (λ full. absurd (omega arith)) in
      let at_close = clear_spells xs (depth + 1) (s + 1) e (omega (arith, close.within)) (omega arith) inner inside in
      clear_spells us depth (e + 1) j le (omega arith) r (clear_close bytes depth e at_close close)

  -- the forms of a text without a fault aren't too deep
  shallow_spells : IsFaultless bytes → (fs : List Form) (depth i j : ℕ) → j ≤ length bytes → depth ≤ 64 → Spells bytes fs i j → IsClear bytes depth i → IsClear bytes depth j × (depth + greatest (map depth_of fs) ≤ 64)
  shallow_spells faultless fs depth i j le low (none g) c = (clear_gap bytes depth i j le g c, omega arith)
  shallow_spells faultless fs depth i j le low (word {s = s} {e = e} {name = n} {rest = us} g w r) c =
      let plain = depth-word n s e in
      let rest = shallow_spells faultless us depth e j le low r (clear_run bytes depth s e (clear_gap bytes depth i s (omega (arith, w.run.some, w.run.within)) g c) w.run (word_valid bytes s e n w)) in
      (rest.0, omega (arith, rest.1))
  shallow_spells faultless fs depth i j le low (number {s = s} {e = e} {n = n} {rest = us} g w r) c =
      let plain = depth-number n s e in
      let rest = shallow_spells faultless us depth e j le low r (clear_run bytes depth s e (clear_gap bytes depth i s (omega (arith, w.run.some, w.run.within)) g c) w.run (number_valid bytes s e n w)) in
      (rest.0, omega (arith, rest.1))
  shallow_spells faultless fs depth i j le low (list {s = s} {e = e} {inner = xs} {rest = us} g o inner close r) c =
      let deeper = depth-list xs s (e + 1) in
      let at_open = clear_gap bytes depth i s (omega (arith, o.within)) g c in
      let room : depth ≢ 64 = (λ full. faultless (Deep s) (o, nesting_is bytes depth s at_open ∙ full)) in
      let at_close = shallow_spells faultless xs (depth + 1) (s + 1) e (omega (arith, close.within)) (omega arith) inner (clear_open bytes depth s at_open o room) in
      let rest = shallow_spells faultless us depth (e + 1) j le low r (clear_close bytes depth e at_close.0 close) in
      (rest.0, omega (arith, at_close.1, rest.1))

  pub text_faultless : (fs : List Form) → IsText bytes fs → IsFaultless bytes
  text_faultless fs t = faultless_end bytes (clear_spells fs 0 0 (length bytes) (omega arith) (omega (arith, t.shallow)) t.spelled (clear_zero bytes t.short))

  pub faultless_text : (fs : List Form) → length bytes ≤ 1048576 → IsFaultless bytes → Spells bytes fs 0 (length bytes) → IsText bytes fs
  faultless_text fs short faultless h =
      record { short = short; spelled = h; shallow = omega (arith, (shallow_spells faultless fs 0 0 (length bytes) (omega arith) (omega arith) h (clear_zero bytes short)).1) }
