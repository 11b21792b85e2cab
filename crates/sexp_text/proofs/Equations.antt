-- What the folds over forms give for a form of each kind.
use Rattle.std.proofs.Common.{◌≡◌, ◌+◌, ◌^◌, ℕ, List, [], ◌∷◌, ◌++◌, Bool, nat_lt, map, ap, sym, ◌∙◌}
use Rattle.std.specs.Fmt.{decimal}
use Rattle.std.specs.List.{list_all}
use Rattle.sexp_text.specs.Forms.{word_form, number_form, list_form, greatest, kind_depth, form_depth, depth_of}
use Rattle.sexp_text.specs.Print.{joined, kind_text, form_text, text_of}
use Rattle.sexp_text.specs.Printed.{is_word, kind_printable, form_printable, is_printable, kind_without_spans, form_without_spans, without_spans}
use Rattle.sexp_text.specs.declared.form.Form.{Form, Form-F, fold-Form, fold-roll-Form}
use Rattle.sexp_text.specs.declared.form.FormKind.{FormKind, FormKind-F, fold-FormKind, fold-roll-FormKind}
use Rattle.sexp_text.specs.declared.form.FormKind.TheVariants as kind

module _ (K F : Type 0) (kind_step : FormKind-F K F → K) (form_step : Form-F K F → F) where
  -- a form, by its kind
  fold-kind : (k : FormKind) (s e : ℕ) → fold-Form K F kind_step form_step (record { kind = k; start = s; end = e }) ≡ form_step (record { kind = fold-FormKind K F kind_step form_step k; start = s; end = e })
  fold-kind k s e = fold-roll-Form K F kind_step form_step (record { kind = k; start = s; end = e })

  pub fold-word : (name : List ℕ) (s e : ℕ) → fold-Form K F kind_step form_step (word_form name s e) ≡ form_step (record { kind = kind_step (FormKind-F.Word name); start = s; end = e })
  fold-word name s e =
      fold-kind (kind.Word name) s e
      ∙ ap (λ (k : K). form_step (record { kind = k; start = s; end = e })) (ap (fold-FormKind K F kind_step form_step) (sym (kind.rolls-Word name)) ∙ fold-roll-FormKind K F kind_step form_step (FormKind-F.Word name))

  pub fold-number : (n s e : ℕ) → fold-Form K F kind_step form_step (number_form n s e) ≡ form_step (record { kind = kind_step (FormKind-F.Number n); start = s; end = e })
  fold-number n s e =
      fold-kind (kind.Number n) s e
      ∙ ap (λ (k : K). form_step (record { kind = k; start = s; end = e })) (ap (fold-FormKind K F kind_step form_step) (sym (kind.rolls-Number n)) ∙ fold-roll-FormKind K F kind_step form_step (FormKind-F.Number n))

  pub fold-list : (fs : List Form) (s e : ℕ) → fold-Form K F kind_step form_step (list_form fs s e) ≡ form_step (record { kind = kind_step (FormKind-F.List (map (fold-Form K F kind_step form_step) fs)); start = s; end = e })
  fold-list fs s e =
      fold-kind (kind.List fs) s e
      ∙ ap (λ (k : K). form_step (record { kind = k; start = s; end = e })) (ap (fold-FormKind K F kind_step form_step) (sym (kind.rolls-List fs)) ∙ fold-roll-FormKind K F kind_step form_step (FormKind-F.List fs))

pub text-word : (name : List ℕ) (s e : ℕ) → text_of (word_form name s e) ≡ name
text-word = fold-word (List ℕ) (List ℕ) kind_text form_text

pub text-number : (n s e : ℕ) → text_of (number_form n s e) ≡ decimal n
text-number = fold-number (List ℕ) (List ℕ) kind_text form_text

pub text-list : (fs : List Form) (s e : ℕ) → text_of (list_form fs s e) ≡ 40 ∷ joined 32 (map text_of fs) ++ 41 ∷ []
text-list = fold-list (List ℕ) (List ℕ) kind_text form_text

pub printable-word : (name : List ℕ) (s e : ℕ) → is_printable (word_form name s e) ≡ is_word name
printable-word = fold-word Bool Bool kind_printable form_printable

pub printable-number : (n s e : ℕ) → is_printable (number_form n s e) ≡ nat_lt n (2 ^ 64)
printable-number = fold-number Bool Bool kind_printable form_printable

pub printable-list : (fs : List Form) (s e : ℕ) → is_printable (list_form fs s e) ≡ list_all (λ test. test) (map is_printable fs)
printable-list = fold-list Bool Bool kind_printable form_printable

pub plain-word : (name : List ℕ) (s e : ℕ) → without_spans (word_form name s e) ≡ word_form name 0 0
plain-word = fold-word FormKind Form kind_without_spans form_without_spans

pub plain-number : (n s e : ℕ) → without_spans (number_form n s e) ≡ number_form n 0 0
plain-number = fold-number FormKind Form kind_without_spans form_without_spans

pub plain-list : (fs : List Form) (s e : ℕ) → without_spans (list_form fs s e) ≡ list_form (map without_spans fs) 0 0
plain-list = fold-list FormKind Form kind_without_spans form_without_spans

pub depth-word : (name : List ℕ) (s e : ℕ) → depth_of (word_form name s e) ≡ 0
depth-word = fold-word ℕ ℕ kind_depth form_depth

pub depth-number : (n s e : ℕ) → depth_of (number_form n s e) ≡ 0
depth-number = fold-number ℕ ℕ kind_depth form_depth

pub depth-list : (fs : List Form) (s e : ℕ) → depth_of (list_form fs s e) ≡ 1 + greatest (map depth_of fs)
depth-list = fold-list ℕ ℕ kind_depth form_depth
