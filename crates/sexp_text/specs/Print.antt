-- The text of a form: one space between the forms of a list, numbers in decimal.
use Rattle.std.specs.Prelude.{ℕ, List, [], ◌∷◌, ◌++◌}
use Rattle.std.specs.Fmt.{decimal}
use Rattle.sexp_text.specs.declared.form.Form.{Form, Form-F, fold-Form}
use Rattle.sexp_text.specs.declared.form.FormKind.{FormKind-F}

-- texts, each behind a byte
abbrev pub behind : ℕ → List (List ℕ) → List ℕ
behind byte [] = []
behind byte (text ∷ texts) = (byte ∷ text) ++ behind byte texts

-- texts with a byte from each to the next
abbrev pub joined : ℕ → List (List ℕ) → List ℕ
joined byte [] = []
joined byte (text ∷ texts) = text ++ behind byte texts

-- the text of a form by its kind: a list has `(`, 40, its forms with a space, 32, from each to the next, and `)`, 41
abbrev pub kind_text : FormKind-F (List ℕ) (List ℕ) → List ℕ
kind_text (FormKind-F.Word name) = name
kind_text (FormKind-F.Number n) = decimal n
kind_text (FormKind-F.List texts) = 40 ∷ joined 32 texts ++ 41 ∷ []

-- the span says nothing of the text
abbrev pub form_text : Form-F (List ℕ) (List ℕ) → List ℕ
form_text form = form.kind

-- the text that a form is printed as
abbrev pub text_of : Form → List ℕ
text_of = fold-Form (List ℕ) (List ℕ) kind_text form_text
