-- What the reader knows at a place.
use Rattle.std.specs.Prelude.{◌≡◌, ◌≢◌, ◌≤◌, ◌<◌, ◌+◌, ◌-◌, ℕ, List, true, false, ◌&&◌, slice_index, slice_range, None, ⊤}
use Rattle.std.specs.Char.{is_ascii_digit}
use Rattle.sexp_text.specs.Places.{is_atom_at}
use Rattle.sexp_text.specs.Numbers.{number_of}
use Rattle.sexp_text.specs.Faults.{HasFault, order_of, count_before, is_open, is_close, is_atom_before}
use Rattle.sexp_text.specs.declared.fault.TextFault.{TextFault}
use Rattle.sexp_text.specs.declared.fault.TextFault.TheVariants.{BadNumber, LongName}
use Rattle.sexp_text.specs.declared.fault.ReadError.{ReadError}
use Rattle.sexp_text.specs.declared.fault.ReadError.TheVariants.{Text, NoMemory}

-- before this place nothing is wrong, so many lists are open there, and no atom goes across it
pub record IsClear (bytes : List ℕ) (depth at : ℕ) : Type 0 where
  pub faultless : (fault : TextFault) → order_of fault ≤ at → HasFault bytes fault → ⊥
  pub lists : depth + count_before (is_close bytes) at ≡ count_before (is_open bytes) at
  pub edge : (is_atom_before bytes at && is_atom_at bytes at) ≡ false

-- the run of atom bytes is a number or a word
pub record IsValid (bytes : List ℕ) (s e : ℕ) : Type 0 where
  pub number : is_ascii_digit (slice_index bytes s) ≡ true → number_of (slice_range bytes s e) ≢ None
  pub word : is_ascii_digit (slice_index bytes s) ≡ false → e - s ≤ 64

-- why it is neither, or there was no memory
abbrev pub IsInvalid : List ℕ → ℕ → ℕ → ReadError → Type 0
IsInvalid bytes s e (Text (BadNumber k)) = (k ≡ s) × (is_ascii_digit (slice_index bytes s) ≡ true) × (number_of (slice_range bytes s e) ≡ None)
IsInvalid bytes s e (Text (LongName k)) = (k ≡ s) × (is_ascii_digit (slice_index bytes s) ≡ false) × (64 < e - s)
IsInvalid bytes s e (Text fault) = ⊥
IsInvalid bytes s e NoMemory = ⊤
