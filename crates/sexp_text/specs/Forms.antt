-- Forms of each kind, and how deep they are.
use Rattle.std.specs.Prelude.{ℕ, ◌+◌, List, [], ◌∷◌, max}
use Rattle.sexp_text.specs.declared.form.Form.{Form, Form-F, fold-Form}
use Rattle.sexp_text.specs.declared.form.FormKind.{FormKind-F}
use Rattle.sexp_text.specs.declared.form.FormKind.TheVariants as kind

-- a word with its span
abbrev pub word_form : List ℕ → ℕ → ℕ → Form
word_form name start end = record { kind = kind.Word name; start = start; end = end }

-- a number with its span
abbrev pub number_form : ℕ → ℕ → ℕ → Form
number_form n start end = record { kind = kind.Number n; start = start; end = end }

-- a list with its span
abbrev pub list_form : List Form → ℕ → ℕ → Form
list_form forms start end = record { kind = kind.List forms; start = start; end = end }

-- the greatest of some numbers, or 0
abbrev pub greatest : List ℕ → ℕ
greatest [] = 0
greatest (n ∷ ns) = max n (greatest ns)

-- the depth of a form by its kind: a list is one deeper than the deepest form in it
abbrev pub kind_depth : FormKind-F ℕ ℕ → ℕ
kind_depth (FormKind-F.Word name) = 0
kind_depth (FormKind-F.Number n) = 0
kind_depth (FormKind-F.List depths) = 1 + greatest depths

-- the span says nothing of the depth
abbrev pub form_depth : Form-F ℕ ℕ → ℕ
form_depth form = form.kind

-- the most lists that stand one inside the other in a form, the form itself counted
abbrev pub depth_of : Form → ℕ
depth_of = fold-Form ℕ ℕ kind_depth form_depth
