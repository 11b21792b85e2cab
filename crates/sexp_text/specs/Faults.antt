-- The faults of a text: conditions on its places.
use Rattle.std.specs.Prelude.{◌≡◌, ◌≤◌, ◌<◌, ◌+◌, ◌-◌, ℕ, zero, suc, List, Bool, true, false, cond, not, ◌&&◌, ◌==◌, length, slice_index, slice_range, None, ⊤}
use Rattle.std.specs.Char.{is_ascii_digit}
use Rattle.sexp_text.specs.Bytes.{is_known}
use Rattle.sexp_text.specs.Places.{commented, is_atom_at, IsRun, Stands}
use Rattle.sexp_text.specs.Numbers.{number_of}
use Rattle.sexp_text.specs.declared.fault.TextFault.{TextFault}
use Rattle.sexp_text.specs.declared.fault.TextFault.TheVariants.{TooLong, NotAscii, BadChar, Unopened, Deep, BadNumber, LongName, Unclosed}
use Rattle.sexp_text.specs.declared.fault.ReadError.{ReadError}
use Rattle.sexp_text.specs.declared.fault.ReadError.TheVariants.{Text, NoMemory}

-- at how many places before this one a test holds
unfoldable pub count_before : (ℕ → Bool) → ℕ → ℕ
count_before test zero = 0
count_before test (suc k) = count_before test k + cond (test k) 1 0

-- a `(`, 40, outside comments
abbrev pub is_open : List ℕ → ℕ → Bool
is_open bytes k = (slice_index bytes k == 40) && not (commented bytes k)

-- a `)`, 41, outside comments
abbrev pub is_close : List ℕ → ℕ → Bool
is_close bytes k = (slice_index bytes k == 41) && not (commented bytes k)

-- the number of `(` before a place less the number of `)`, comments left out
abbrev pub nesting : List ℕ → ℕ → ℕ
nesting bytes k = count_before (is_open bytes) k - count_before (is_close bytes) k

-- an atom byte outside comments stands just before the place
unfoldable pub is_atom_before : List ℕ → ℕ → Bool
is_atom_before bytes zero = false
is_atom_before bytes (suc k) = is_atom_at bytes k

-- an atom: a longest run of atom bytes
pub record IsAtom (bytes : List ℕ) (s e : ℕ) : Type 0 where
  pub fresh : is_atom_before bytes s ≡ false
  pub run : IsRun bytes s e

-- the text has this fault, among others perhaps
abbrev pub HasFault : List ℕ → TextFault → Type 0
HasFault bytes (TooLong k) = (k ≡ 1048576) × (1048576 < length bytes)
HasFault bytes (NotAscii k) = (k < length bytes) × (128 ≤ slice_index bytes k)
HasFault bytes (BadChar k) = (k < length bytes) × (slice_index bytes k < 128) × (commented bytes k ≡ false) × (is_known (slice_index bytes k) ≡ false)
HasFault bytes (Unopened k) = Stands bytes k 41 × (nesting bytes k ≡ 0)
HasFault bytes (Deep k) = Stands bytes k 40 × (nesting bytes k ≡ 64)
HasFault bytes (BadNumber k) = (e : ℕ) × IsAtom bytes k e × (is_ascii_digit (slice_index bytes k) ≡ true) × (number_of (slice_range bytes k e) ≡ None)
HasFault bytes (LongName k) = (e : ℕ) × IsAtom bytes k e × (is_ascii_digit (slice_index bytes k) ≡ false) × (64 < e - k)
HasFault bytes (Unclosed k) = (k ≡ length bytes) × (0 < nesting bytes k)

-- the text has no fault
abbrev pub IsFaultless : List ℕ → Type 0
IsFaultless bytes = (fault : TextFault) → ¬ HasFault bytes fault

-- a text that is too long is refused for that; else the least offset counts
abbrev pub order_of : TextFault → ℕ
order_of (TooLong k) = 0
order_of (NotAscii k) = k + 1
order_of (BadChar k) = k + 1
order_of (Unopened k) = k + 1
order_of (Deep k) = k + 1
order_of (BadNumber k) = k + 1
order_of (LongName k) = k + 1
order_of (Unclosed k) = k + 1

-- the text has this fault, and none before it
pub record IsFirstFault (bytes : List ℕ) (fault : TextFault) : Type 0 where
  pub has : HasFault bytes fault
  pub first : (other : TextFault) → HasFault bytes other → order_of fault ≤ order_of other

-- a text was refused for its first fault, or there was no memory
abbrev pub IsReadError : List ℕ → ReadError → Type 0
IsReadError bytes (Text fault) = IsFirstFault bytes fault
IsReadError bytes NoMemory = ⊤
