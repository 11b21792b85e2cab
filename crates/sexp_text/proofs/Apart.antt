-- Two faults of a text never share a place.
use Rattle.std.proofs.Common.{◌≡◌, ◌<◌, ◌≤◌, ◌+◌, ℕ, zero, suc, List, true, false, cond, not, ◌==◌, nat_le, length, slice_index, refl, sym, ◌∙◌, ap, arith, add-one}
use Rattle.std.specs.Char.{is_ascii_digit}
use Rattle.sexp_text.specs.Bytes.{is_atom_byte, is_known}
use Rattle.sexp_text.specs.Faults.{HasFault, order_of, IsAtom}
use Rattle.sexp_text.specs.declared.fault.TextFault.{TextFault}
use Rattle.sexp_text.specs.declared.fault.TextFault.TheVariants.{TooLong, NotAscii, BadChar, Unopened, Deep, BadNumber, LongName, Unclosed}
use Rattle.sexp_text.proofs.Truth.{and_left, same_true, same_false, le_true, le_false, differs}
use Rattle.sexp_text.proofs.ByteClasses.{atom_ascii, atom_known}

-- the only fault that a text may have at a place, by the byte there
abbrev fault_at : List ℕ → ℕ → TextFault
fault_at bytes k =
    let byte = slice_index bytes k in
    cond (k == length bytes) (Unclosed k) (cond (nat_le 128 byte) (NotAscii k) (cond (not (is_known byte)) (BadChar k) (cond (byte == 41) (Unopened k) (cond (byte == 40) (Deep k) (cond (is_ascii_digit byte) (BadNumber k) (LongName k))))))

-- and by its order
by_order : List ℕ → ℕ → TextFault
by_order bytes zero = TooLong 1048576
by_order bytes (suc k) = fault_at bytes k

by_order-zero : (bytes : List ℕ) → by_order bytes 0 ≡ TooLong 1048576
unfolding by_order
by_order-zero bytes = refl

by_order-step : (bytes : List ℕ) (k : ℕ) → by_order bytes (k + 1) ≡ fault_at bytes k
unfolding by_order
by_order-step bytes k = rw add-one refl

module _ (bytes : List ℕ) (k : ℕ) (within : k < length bytes) where
  inside : (k == length bytes) ≡ false
  inside = same_false k (length bytes) (λ e. absurd (omega arith))

  not_ascii_at : 128 ≤ slice_index bytes k → fault_at bytes k ≡ NotAscii k
  not_ascii_at large = rw (inside, le_true 128 (slice_index bytes k) large) refl

  bad_char_at : slice_index bytes k < 128 → is_known (slice_index bytes k) ≡ false → fault_at bytes k ≡ BadChar k
  bad_char_at ascii unknown = rw (inside, le_false 128 (slice_index bytes k) ascii, unknown) refl

  close_at : slice_index bytes k ≡ 41 → fault_at bytes k ≡ Unopened k
  close_at is = rw (inside, is) refl

  open_at : slice_index bytes k ≡ 40 → fault_at bytes k ≡ Deep k
  open_at is = rw (inside, is) refl

  atom_at : is_atom_byte (slice_index bytes k) ≡ true → fault_at bytes k ≡ cond (is_ascii_digit (slice_index bytes k)) (BadNumber k) (LongName k)
  atom_at atom =
      rw (inside, le_false 128 (slice_index bytes k) (atom_ascii (slice_index bytes k) atom), atom_known (slice_index bytes k) atom, differs is_atom_byte (slice_index bytes k) 41 atom refl, differs is_atom_byte (slice_index bytes k) 40 atom refl) refl

atom_of : (bytes : List ℕ) (k e : ℕ) → IsAtom bytes k e → (k < length bytes) × (is_atom_byte (slice_index bytes k) ≡ true)
atom_of bytes k e a = (omega (arith, a.run.some, a.run.within), and_left _ _ (a.run.all k (omega arith) a.run.some))

-- a fault is told by its order
told : (bytes : List ℕ) (fault : TextFault) → HasFault bytes fault → by_order bytes (order_of fault) ≡ fault
told bytes (TooLong k) h = by_order-zero bytes ∙ ap TooLong (sym h.0)
told bytes (NotAscii k) h = by_order-step bytes k ∙ not_ascii_at bytes k h.0 h.1
told bytes (BadChar k) h = by_order-step bytes k ∙ bad_char_at bytes k h.0 h.1 h.3
told bytes (Unopened k) h = by_order-step bytes k ∙ close_at bytes k h.0.within h.0.is
told bytes (Deep k) h = by_order-step bytes k ∙ open_at bytes k h.0.within h.0.is
told bytes (BadNumber k) h = let a = atom_of bytes k h.0 h.1 in by_order-step bytes k ∙ atom_at bytes k a.0 a.1 ∙ ap (λ b. cond b (BadNumber k) (LongName k)) h.2
told bytes (LongName k) h = let a = atom_of bytes k h.0 h.1 in by_order-step bytes k ∙ atom_at bytes k a.0 a.1 ∙ ap (λ b. cond b (BadNumber k) (LongName k)) h.2
told bytes (Unclosed k) h = by_order-step bytes k ∙ (let end : (k == length bytes) ≡ true = ap (λ n. n == length bytes) h.0 ∙ same_true (length bytes) in rw end refl)

pub apart : (bytes : List ℕ) (a b : TextFault) → HasFault bytes a → HasFault bytes b → order_of a ≡ order_of b → a ≡ b
apart bytes a b has_a has_b orders = sym (told bytes a has_a) ∙ ap (by_order bytes) orders ∙ told bytes b has_b
