-- Which forms are read back from their texts.
use Rattle.std.specs.Prelude.{◌≡◌, ◌≤◌, ◌^◌, ℕ, List, [], ◌∷◌, ◌++◌, Bool, not, ◌&&◌, ◌⊎◌, nat_le, nat_lt, IsTrue, length, map, slice_index}
use Rattle.std.specs.List.{list_all}
use Rattle.std.specs.Char.{is_ascii_digit}
use Rattle.sexp_text.specs.Bytes.{is_atom_byte}
use Rattle.sexp_text.specs.Forms.{greatest, depth_of}
use Rattle.sexp_text.specs.Print.{text_of}
use Rattle.sexp_text.specs.declared.form.Form.{Form, Form-F, fold-Form}
use Rattle.sexp_text.specs.declared.form.FormKind.{FormKind, FormKind-F}
use Rattle.sexp_text.specs.declared.form.FormKind.TheVariants as kind

-- a word of the grammar: 1 to 64 atom bytes, of which the first is no digit
abbrev pub is_word : List ℕ → Bool
is_word name = (nat_le 1 (length name) && nat_le (length name) 64) && (list_all is_atom_byte name && not (is_ascii_digit (slice_index name 0)))

-- whether the grammar has a form, by its kind: a word, a number below 2^64, or a list of forms that it has
abbrev pub kind_printable : FormKind-F Bool Bool → Bool
kind_printable (FormKind-F.Word name) = is_word name
kind_printable (FormKind-F.Number n) = nat_lt n (2 ^ 64)
kind_printable (FormKind-F.List tests) = list_all (λ test. test) tests

-- the span says nothing of that
abbrev pub form_printable : Form-F Bool Bool → Bool
form_printable form = form.kind

-- every word of the form is a word of the grammar, and every number is below 2^64
abbrev pub is_printable : Form → Bool
is_printable = fold-Form Bool Bool kind_printable form_printable

-- forms of words and numbers of the grammar that nest lists at most 64 deep
pub record ArePrintable (forms : List Form) : Type 0 where
  pub parts : IsTrue (list_all is_printable forms)
  pub shallow : greatest (map depth_of forms) ≤ 64

-- what a form is, with inner forms that have lost their spans
abbrev pub kind_without_spans : FormKind-F FormKind Form → FormKind
kind_without_spans (FormKind-F.Word name) = kind.Word name
kind_without_spans (FormKind-F.Number n) = kind.Number n
kind_without_spans (FormKind-F.List forms) = kind.List forms

-- a form with its span put to 0
abbrev pub form_without_spans : Form-F FormKind Form → Form
form_without_spans form = record { kind = form.kind; start = 0; end = 0 }

-- the form with its span, and those of all inner forms, put to 0
abbrev pub without_spans : Form → Form
without_spans = fold-Form FormKind Form kind_without_spans form_without_spans

-- the texts of forms, each followed by a line feed, 10
abbrev pub lines_of : List Form → List ℕ
lines_of [] = []
lines_of (form ∷ forms) = text_of form ++ 10 ∷ lines_of forms

-- the text is the lines of these forms, with the last line feed or without it
abbrev pub IsPrinted : List ℕ → List Form → Type 0
IsPrinted bytes forms = (bytes ≡ lines_of forms) ⊎ (bytes ++ 10 ∷ [] ≡ lines_of forms)
