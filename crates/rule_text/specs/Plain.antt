-- Forms whose spans are put to 0.
use Rattle.std.specs.Prelude.{ℕ, List}
use Rattle.sexp_text.specs.Forms.{word_form, number_form, list_form}
use Rattle.sexp_text.specs.declared.form.Form.{Form}

-- a word
abbrev pub plain_word : List ℕ → Form
plain_word name = word_form name 0 0

-- a number
abbrev pub plain_number : ℕ → Form
plain_number n = number_form n 0 0

-- a list
abbrev pub plain_list : List Form → Form
plain_list forms = list_form forms 0 0
