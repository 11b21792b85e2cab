-- What stands at a place of a text: an offset in bytes from 0.
use Rattle.std.specs.Prelude.{◌≡◌, ◌≤◌, ◌<◌, ℕ, zero, suc, List, Bool, true, false, not, ◌&&◌, ◌||◌, ◌==◌, slice_index, length}
use Rattle.sexp_text.specs.Bytes.{is_blank, is_atom_byte}

-- whether a `;`, 59, stands before the place on its line; so place k is in a comment where this holds at k + 1
unfoldable pub commented : List ℕ → ℕ → Bool
commented bytes zero = false
commented bytes (suc k) = (slice_index bytes k == 59 || commented bytes k) && not (slice_index bytes k == 10)

-- a place in a comment or with a blank
abbrev pub is_gap : List ℕ → ℕ → Bool
is_gap bytes k = commented bytes (suc k) || is_blank (slice_index bytes k)

-- only blanks and comments stand from place i to place j, in ASCII
pub record IsGap (bytes : List ℕ) (i j : ℕ) : Type 0 where
  pub order : i ≤ j
  pub all : (k : ℕ) → i ≤ k → k < j → is_gap bytes k ≡ true
  pub ascii : (k : ℕ) → i ≤ k → k < j → slice_index bytes k < 128

-- a byte outside comments
pub record Stands (bytes : List ℕ) (k byte : ℕ) : Type 0 where
  pub within : k < length bytes
  pub is : slice_index bytes k ≡ byte
  pub outside : commented bytes k ≡ false

-- an atom byte outside comments
abbrev pub is_atom_at : List ℕ → ℕ → Bool
is_atom_at bytes k = is_atom_byte (slice_index bytes k) && not (commented bytes k)

-- atom bytes stand from place s to place e, and no further
pub record IsRun (bytes : List ℕ) (s e : ℕ) : Type 0 where
  pub some : s < e
  pub within : e ≤ length bytes
  pub all : (k : ℕ) → s ≤ k → k < e → is_atom_at bytes k ≡ true
  pub behind : is_atom_at bytes e ≡ false
