-- The text of printable forms spells them again, but for their spans.
use Rattle.std.proofs.Common.{◌≡◌, ◌≢◌, ◌≤◌, ◌<◌, ◌+◌, ◌^◌, ℕ, List, [], ◌∷◌, ◌++◌, true, false, ◌&&◌, nat_le, map, length, slice_index, Some, refl, sym, ◌∙◌, ap, subst, inl, inr, arith, length-append, append_assoc}
use Rattle.std.specs.List.{list_all}
use Rattle.std.specs.Char.{is_ascii_digit}
use Rattle.std.specs.Fmt.{decimal}
use Rattle.std.proofs.lemmas.List.Folds.{list_all-map}
use Rattle.std.proofs.lemmas.List.{append_cancel_right, get_or_past, append-nil}
use Rattle.sexp_text.specs.Bytes.{is_atom_byte, is_blank}
use Rattle.sexp_text.specs.Places.{commented, is_atom_at, Stands}
use Rattle.sexp_text.specs.Numbers.{number_of}
use Rattle.sexp_text.specs.Forms.{word_form, number_form, list_form, greatest, depth_of}
use Rattle.sexp_text.specs.Spells.{Spells, none, word, number, list}
use Rattle.sexp_text.specs.Text.{IsText}
use Rattle.sexp_text.specs.Print.{behind, joined, text_of}
use Rattle.sexp_text.specs.Printed.{is_word, is_printable, ArePrintable, without_spans, lines_of, IsPrinted}
use Rattle.sexp_text.specs.declared.form.Form.{Form}
use Rattle.sexp_text.proofs.Commented.{commented-plain, commented-zero, blank_gap}
use Rattle.sexp_text.proofs.Reading.{no_gap, gap_front, append}
use Rattle.sexp_text.proofs.Truth.{le_of, lt_of, and_left, and_right, not_true}
use Rattle.sexp_text.proofs.Clear.{not_atom_byte}
use Rattle.sexp_text.proofs.ByteClasses.{blank_not_atom}
use Rattle.sexp_text.proofs.Equations.{text-word, text-number, text-list, printable-word, printable-number, printable-list, plain-word, plain-number, plain-list, depth-word, depth-number, depth-list}
use Rattle.sexp_text.proofs.Induction.{Each, form_ind}
use Rattle.sexp_text.proofs.Laid.{IsLaid, laid_front, laid_behind, laid_first, laid_range, laid_outside, laid_run, laid_whole}
use Rattle.sexp_text.proofs.Decimals.{decimal_some, decimal_atoms, decimal_first, decimal_number}

-- ---- spans don't matter for the depth

depths_plain : (fs : List Form) → Each (λ f. depth_of (without_spans f) ≡ depth_of f) fs → map depth_of (map without_spans fs) ≡ map depth_of fs
depths_plain [] h = refl
depths_plain (f ∷ fs) h = ap (λ n. n ∷ map depth_of (map without_spans fs)) h.0 ∙ ap (λ ns. depth_of f ∷ ns) (depths_plain fs h.1)

depth-plain : (f : Form) → depth_of (without_spans f) ≡ depth_of f
depth-plain =
    form_ind (λ f. depth_of (without_spans f) ≡ depth_of f)
    (λ name s e. ap depth_of (plain-word name s e) ∙ depth-word name 0 0 ∙ sym (depth-word name s e))
    (λ n s e. ap depth_of (plain-number n s e) ∙ depth-number n 0 0 ∙ sym (depth-number n s e))
    (λ fs s e each. ap depth_of (plain-list fs s e) ∙ depth-list (map without_spans fs) 0 0 ∙ ap (λ ns. 1 + greatest ns) (depths_plain fs each) ∙ sym (depth-list fs s e))

each_plain : (fs : List Form) → Each (λ f. depth_of (without_spans f) ≡ depth_of f) fs
each_plain [] = tt
each_plain (f ∷ fs) = (depth-plain f, each_plain fs)

-- forms that are the same but for spans are equally deep
same_depths : (fs gs : List Form) → map without_spans fs ≡ map without_spans gs → map depth_of fs ≡ map depth_of gs
same_depths fs gs same = sym (depths_plain fs (each_plain fs)) ∙ ap (map depth_of) same ∙ depths_plain gs (each_plain gs)

-- ---- one form

-- from place s to place e the text spells a form that is this one but for spans, and e is outside comments
pub record IsReread (bytes : List ℕ) (s e : ℕ) (f : Form) : Type 0 where
  pub form : Form
  pub spells : Spells bytes (form ∷ []) s e
  pub same : without_spans form ≡ without_spans f
  pub outside : commented bytes e ≡ false

pub record AreReread (bytes : List ℕ) (s e : ℕ) (fs : List Form) : Type 0 where
  pub forms : List Form
  pub spells : Spells bytes forms s e
  pub same : map without_spans forms ≡ map without_spans fs
  pub outside : commented bytes e ≡ false

same_cons : (g f : Form) (gs fs : List Form) → without_spans g ≡ without_spans f → map without_spans gs ≡ map without_spans fs → map without_spans (g ∷ gs) ≡ map without_spans (f ∷ fs)
same_cons g f gs fs first rest = cc

module _ (bytes : List ℕ) where
  -- wherever a printable form's text stands outside comments, with no atom byte behind it, the form is read again
  abbrev pub Rereads : Form → Type 0
  Rereads f = is_printable f ≡ true → (t : List ℕ) → t ≡ text_of f → (s e : ℕ) → s + length t ≡ e → IsLaid bytes s t → commented bytes s ≡ false → is_atom_at bytes e ≡ false → IsReread bytes s e f

  word_rereads : (name : List ℕ) (a b : ℕ) → Rereads (word_form name a b)
  word_rereads name a b ok t is s e end laid outside last =
      let same : t ≡ name = is ∙ text-word name a b in
      let good : is_word t ≡ true = ap is_word same ∙ sym (printable-word name a b) ∙ ok in
      let long = and_left (nat_le 1 (length t) && nat_le (length t) 64) _ good in
      let bytes_good = and_right (nat_le 1 (length t) && nat_le (length t) 64) _ good in
      let some : 0 < length t = le_of 1 (length t) (and_left (nat_le 1 (length t)) _ long) in
      let short : length t ≤ 64 = le_of (length t) 64 (and_right (nat_le 1 (length t)) _ long) in
      let atoms = and_left (list_all is_atom_byte t) _ bytes_good in
      let plain = not_true (is_ascii_digit (slice_index t 0)) (and_right (list_all is_atom_byte t) _ bytes_good) in
      record {
        form = word_form t s e;
        spells = word (no_gap bytes s) (record { run = laid_run bytes t s e end laid some atoms outside last; first = ap is_ascii_digit (laid_first bytes t s laid some) ∙ plain; short = omega arith; spelled = laid_range bytes t s e end laid }) (none (no_gap bytes e));
        same = plain-word t s e ∙ ap (λ n. word_form n 0 0) same ∙ sym (plain-word name a b);
        outside = laid_outside bytes t s e end laid atoms outside;
      }

  number_rereads : (n a b : ℕ) → Rereads (number_form n a b)
  number_rereads n a b ok t is s e end laid outside last =
      let same : decimal n ≡ t = sym (is ∙ text-number n a b) in
      let small : n < 2 ^ 64 = lt_of n (2 ^ 64) (sym (printable-number n a b) ∙ ok) in
      let some = subst (λ u. 0 < length u) same (decimal_some n small) in
      let atoms = subst (λ u. list_all is_atom_byte u ≡ true) same (decimal_atoms n small) in
      let digit = subst (λ u. is_ascii_digit (slice_index u 0) ≡ true) same (decimal_first n small) in
      let value = subst (λ u. number_of u ≡ Some n) (same ∙ laid_range bytes t s e end laid) (decimal_number n small) in
      record {
        form = number_form n s e;
        spells = number (no_gap bytes s) (record { run = laid_run bytes t s e end laid some atoms outside last; first = ap is_ascii_digit (laid_first bytes t s laid some) ∙ digit; value = value }) (none (no_gap bytes e));
        same = plain-number n s e ∙ sym (plain-number n a b);
        outside = laid_outside bytes t s e end laid atoms outside;
      }

  -- forms with a blank between
  module _ (byte : ℕ) (blank : is_blank byte ≡ true) (ascii : byte < 128) (other : byte ≢ 59) where
    -- behind a text comes no atom byte, if none comes behind the texts after it
    edge : (ts : List (List ℕ)) (s e : ℕ) → s + length (behind byte ts) ≡ e → IsLaid bytes s (behind byte ts) → is_atom_at bytes e ≡ false → is_atom_at bytes s ≡ false
    edge [] s e end laid last = let same : e ≡ s = omega arith in subst (λ n. is_atom_at bytes n ≡ false) same last
    edge (t ∷ ts) s e end laid last = not_atom_byte bytes s (ap is_atom_byte laid.1 ∙ blank_not_atom byte blank)

    -- one form and those behind it
    step : (f : Form) (fs : List Form) → Rereads f → is_printable f ≡ true → (s e : ℕ) → s + length (text_of f ++ behind byte (map text_of fs)) ≡ e → IsLaid bytes s (text_of f ++ behind byte (map text_of fs)) → commented bytes s ≡ false → is_atom_at bytes e ≡ false
        → ((m : ℕ) → m + length (behind byte (map text_of fs)) ≡ e → IsLaid bytes m (behind byte (map text_of fs)) → commented bytes m ≡ false → AreReread bytes m e fs) → AreReread bytes s e (f ∷ fs)
    step f fs first ok s e end laid outside last others =
        let u = text_of f in
        let v = behind byte (map text_of fs) in
        let m = s + length u in
        let end_v : m + length v ≡ e = omega (arith, length-append u v) in
        let laid_v = laid_behind bytes u v s m refl laid in
        let one = first ok u refl s m refl (laid_front bytes u v s laid) outside (edge (map text_of fs) m e end_v laid_v last) in
        let rest = others m end_v laid_v one.outside in
        record {
          forms = one.form ∷ rest.forms;
          spells = append bytes (one.form ∷ []) rest.forms s m e one.spells rest.spells;
          same = same_cons one.form f rest.forms fs one.same rest.same;
          outside = rest.outside;
        }

    no_forms : (s e : ℕ) → s + 0 ≡ e → commented bytes s ≡ false → AreReread bytes s e []
    no_forms s e end outside = let same : s ≡ e = omega arith in subst (λ n. AreReread bytes s n []) same (record { forms = []; spells = none (no_gap bytes s); same = refl; outside = outside })

    behind_reread : (fs : List Form) → Each Rereads fs → list_all is_printable fs ≡ true → (s e : ℕ) → s + length (behind byte (map text_of fs)) ≡ e → IsLaid bytes s (behind byte (map text_of fs)) → commented bytes s ≡ false → is_atom_at bytes e ≡ false → AreReread bytes s e fs
    behind_reread [] each ok s e end laid outside last = no_forms s e end outside
    behind_reread (f ∷ fs) each ok s e end laid outside last =
        let gap = blank_gap bytes s (omega (arith, laid.1)) (ap is_blank laid.1 ∙ blank) in
        let next = commented-plain bytes s (λ is. other (sym laid.1 ∙ is)) outside in
        let more = step f fs each.0 (and_left (is_printable f) _ ok) (s + 1) e (omega arith) laid.2 next last (λ m end_v laid_v outside_v. behind_reread fs each.1 (and_right (is_printable f) _ ok) m e end_v laid_v outside_v last) in
        record { forms = more.forms; spells = gap_front bytes more.forms s (s + 1) e gap more.spells; same = more.same; outside = more.outside }

    pub joined_reread : (fs : List Form) → Each Rereads fs → list_all is_printable fs ≡ true → (s e : ℕ) → s + length (joined byte (map text_of fs)) ≡ e → IsLaid bytes s (joined byte (map text_of fs)) → commented bytes s ≡ false → is_atom_at bytes e ≡ false → AreReread bytes s e fs
    joined_reread [] each ok s e end laid outside last = no_forms s e end outside
    joined_reread (f ∷ fs) each ok s e end laid outside last =
        step f fs each.0 (and_left (is_printable f) _ ok) s e end laid outside last (λ m end_v laid_v outside_v. behind_reread fs each.1 (and_right (is_printable f) _ ok) m e end_v laid_v outside_v last)

  list_rereads : (fs : List Form) (a b : ℕ) → Each Rereads fs → Rereads (list_form fs a b)
  list_rereads fs a b each ok t is s e end laid outside last =
      let u = joined 32 (map text_of fs) in
      let same : t ≡ 40 ∷ u ++ 41 ∷ [] = is ∙ text-list fs a b in
      let whole = subst (IsLaid bytes s) same laid in
      let m = s + 1 + length u in
      let end_m : m + 1 ≡ e = omega (arith, end, ap length same, length-append u (41 ∷ [])) in
      let close = laid_behind bytes u (41 ∷ []) (s + 1) m refl whole.2 in
      let begins : Stands bytes s 40 = record { within = whole.0; is = whole.1; outside = outside } in
      let next = commented-plain bytes s (λ i. absurd (omega (arith, whole.1, i))) outside in
      let parts : list_all is_printable fs ≡ true = sym (list_all-map (λ test. test) is_printable fs) ∙ sym (printable-list fs a b) ∙ ok in
      let inner = joined_reread 32 refl (omega arith) (λ i. absurd (omega arith)) fs each parts (s + 1) m refl (laid_front bytes u (41 ∷ []) (s + 1) whole.2) next (not_atom_byte bytes m (ap is_atom_byte close.1)) in
      let ends : Stands bytes m 41 = record { within = close.0; is = close.1; outside = inner.outside } in
      subst (λ n. IsReread bytes s n (list_form fs a b)) end_m (record {
        form = list_form inner.forms s (m + 1);
        spells = list (no_gap bytes s) begins inner.spells ends (none (no_gap bytes (m + 1)));
        same = plain-list inner.forms s (m + 1) ∙ ap (λ gs. list_form gs 0 0) inner.same ∙ sym (plain-list fs a b);
        outside = commented-plain bytes m (λ i. absurd (omega (arith, close.1, i))) inner.outside;
      })

  pub rereads : (f : Form) → Rereads f
  rereads = form_ind Rereads word_rereads number_rereads list_rereads

  pub each_rereads : (fs : List Form) → Each Rereads fs
  each_rereads [] = tt
  each_rereads (f ∷ fs) = (rereads f, each_rereads fs)

-- ---- the lines of some forms

-- at the end of the text stands no atom byte
no_atom_at_end : (bytes : List ℕ) → is_atom_at bytes (length bytes) ≡ false
no_atom_at_end bytes = not_atom_byte bytes (length bytes) (ap is_atom_byte (get_or_past bytes (length bytes) 0 (omega arith)))

-- the lines of a form and more are their texts with line feeds between and behind
lines_joined : (f : Form) (fs : List Form) → lines_of (f ∷ fs) ≡ joined 10 (map text_of (f ∷ fs)) ++ 10 ∷ []
lines_joined f [] = ap (λ u. u ++ 10 ∷ []) (sym (append-nil (text_of f)))
lines_joined f (g ∷ fs) = ap (λ u. text_of f ++ 10 ∷ u) (lines_joined g fs) ∙ sym (append_assoc (text_of f) (10 ∷ joined 10 (map text_of (g ∷ fs))) (10 ∷ []))

module _ (bytes : List ℕ) where
  -- the text is those texts with line feeds between, up to its end
  unended : (fs : List Form) → list_all is_printable fs ≡ true → bytes ≡ joined 10 (map text_of fs) → AreReread bytes 0 (length bytes) fs
  unended fs ok is =
      joined_reread bytes 10 refl (omega arith) (λ i. absurd (omega arith)) fs (each_rereads bytes fs) ok 0 (length bytes) (omega (arith, ap length is)) (subst (IsLaid bytes 0) is (laid_whole [] bytes)) (commented-zero bytes) (no_atom_at_end bytes)

  -- and here with a line feed more
  ended : (fs : List Form) → list_all is_printable fs ≡ true → bytes ≡ joined 10 (map text_of fs) ++ 10 ∷ [] → AreReread bytes 0 (length bytes) fs
  ended fs ok is =
      let u = joined 10 (map text_of fs) in
      let m = length u in
      let end : m + 1 ≡ length bytes = omega (arith, ap length is, length-append u (10 ∷ [])) in
      let whole = subst (IsLaid bytes 0) is (laid_whole [] bytes) in
      let feed = laid_behind bytes u (10 ∷ []) 0 m (omega arith) whole in
      let lines = joined_reread bytes 10 refl (omega arith) (λ i. absurd (omega arith)) fs (each_rereads bytes fs) ok 0 m (omega arith) (laid_front bytes u (10 ∷ []) 0 whole) (commented-zero bytes) (not_atom_byte bytes m (ap is_atom_byte feed.1)) in
      let gap = blank_gap bytes m (omega (arith, feed.1)) (ap is_blank feed.1) in
      subst (λ n. AreReread bytes 0 n fs) end (record {
        forms = lines.forms;
        spells = subst (λ gs. Spells bytes gs 0 (m + 1)) (append-nil lines.forms) (append bytes lines.forms [] 0 m (m + 1) lines.spells (none gap));
        same = lines.same;
        outside = commented-plain bytes m (λ i. absurd (omega (arith, feed.1, i))) lines.outside;
      })

  printed_reread : (fs : List Form) → list_all is_printable fs ≡ true → IsPrinted bytes fs → AreReread bytes 0 (length bytes) fs
  printed_reread [] ok (inl is) = unended [] ok is
  printed_reread [] ok (inr is) = absurd (omega (arith, ap length is, length-append bytes (10 ∷ [])))
  printed_reread (f ∷ fs) ok (inl is) = ended (f ∷ fs) ok (is ∙ lines_joined f fs)
  printed_reread (f ∷ fs) ok (inr is) = unended (f ∷ fs) ok (append_cancel_right bytes (joined 10 (map text_of (f ∷ fs))) (10 ∷ []) (is ∙ lines_joined f fs))

  pub printed_read : (fs : List Form) → ArePrintable fs → IsPrinted bytes fs → length bytes ≤ 1048576 → (gs : List Form) × IsText bytes gs × (map without_spans gs ≡ map without_spans fs)
  printed_read fs ok is short =
      let again = printed_reread fs ok.parts is in
      (again.forms, record { short = short; spelled = again.spells; shallow = subst (λ ns. greatest ns ≤ 64) (sym (same_depths again.forms fs again.same)) ok.shallow }, again.same)
