-- Which forms a text spells.
use Rattle.std.specs.Prelude.{◌≡◌, ◌≤◌, ◌+◌, ◌-◌, ℕ, List, [], ◌∷◌, true, false, Some, slice_index, slice_range}
use Rattle.std.specs.Char.{is_ascii_digit}
use Rattle.sexp_text.specs.Forms.{word_form, number_form, list_form}
use Rattle.sexp_text.specs.Places.{IsGap, IsRun, Stands}
use Rattle.sexp_text.specs.Numbers.{number_of}
use Rattle.sexp_text.specs.declared.form.Form.{Form}

-- the run of atom bytes from place s to place e is this word: it begins with no digit and has at most 64 bytes
pub record IsWord (bytes : List ℕ) (s e : ℕ) (name : List ℕ) : Type 0 where
  pub run : IsRun bytes s e
  pub first : is_ascii_digit (slice_index bytes s) ≡ false
  pub short : e - s ≤ 64
  pub spelled : name ≡ slice_range bytes s e

-- the run of atom bytes from place s to place e begins with a digit and writes this number
pub record IsNumber (bytes : List ℕ) (s e n : ℕ) : Type 0 where
  pub run : IsRun bytes s e
  pub first : is_ascii_digit (slice_index bytes s) ≡ true
  pub value : number_of (slice_range bytes s e) ≡ Some n

-- the bytes from place i to place j spell these forms: they stand there in order, with blanks and comments between
pub data Spells (bytes : List ℕ) : List Form → ℕ → ℕ → Type 0 where
  none : {i j : ℕ} → IsGap bytes i j → Spells bytes [] i j
  word : {i s e j : ℕ} {name : List ℕ} {rest : List Form} → IsGap bytes i s → IsWord bytes s e name → Spells bytes rest e j → Spells bytes (word_form name s e ∷ rest) i j
  number : {i s e j n : ℕ} {rest : List Form} → IsGap bytes i s → IsNumber bytes s e n → Spells bytes rest e j → Spells bytes (number_form n s e ∷ rest) i j
  -- a list begins with `(`, 40, and ends with `)`, 41
  list : {i s e j : ℕ} {inner rest : List Form} → IsGap bytes i s → Stands bytes s 40 → Spells bytes inner (s + 1) e → Stands bytes e 41 → Spells bytes rest (e + 1) j → Spells bytes (list_form inner s (e + 1) ∷ rest) i j
