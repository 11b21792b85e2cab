-- Induction over forms, with a fact for each inner form.
use Rattle.std.proofs.Common.{ℕ, List, [], ◌∷◌, map, sym, subst}
use Rattle.sexp_text.specs.Forms.{word_form, number_form, list_form}
use Rattle.sexp_text.specs.declared.form.Form.{Form, ind-Form, roll-Form}
use Rattle.sexp_text.specs.declared.form.FormKind.{FormKind, FormKind-F, map-FormKind, roll-FormKind}
use Rattle.sexp_text.specs.declared.form.FormKind.TheVariants as kind

-- a fact for each form of a list
abbrev pub Each : (Form → Type 0) → List Form → Type 0
Each C [] = Unit {0}
Each C (f ∷ fs) = C f × Each C fs

-- whatever the span of a form of this kind
abbrev AtAnySpan : (Form → Type 0) → FormKind → Type 0
AtAnySpan C k = (s e : ℕ) → C (record { kind = k; start = s; end = e })

each_of : (C : Form → Type 0) (es : List ((f : Form) × C f)) → Each C (map (λ e. e.0) es)
each_of C [] = tt
each_of C (e ∷ es) = (e.1, each_of C es)

module _ (C : Form → Type 0) (word : (name : List ℕ) (s e : ℕ) → C (word_form name s e)) (number : (n s e : ℕ) → C (number_form n s e)) (list : (fs : List Form) (s e : ℕ) → Each C fs → C (list_form fs s e)) where
  kind_layer : (y : FormKind-F ((k : FormKind) × AtAnySpan C k) ((f : Form) × C f)) → AtAnySpan C (roll-FormKind (map-FormKind ((k : FormKind) × AtAnySpan C k) ((f : Form) × C f) FormKind Form (λ e. e.0) (λ e. e.0) y))
  kind_layer (FormKind-F.Word name) = subst (AtAnySpan C) (sym (kind.rolls-Word name)) (word name)
  kind_layer (FormKind-F.Number n) = subst (AtAnySpan C) (sym (kind.rolls-Number n)) (number n)
  kind_layer (FormKind-F.List es) = subst (AtAnySpan C) (sym (kind.rolls-List (map (λ e. e.0) es))) (λ s e. list (map (λ e. e.0) es) s e (each_of C es))

  pub form_ind : (f : Form) → C f
  form_ind = ind-Form (AtAnySpan C) C (λ x y is. subst (λ z. AtAnySpan C (roll-FormKind z)) is (kind_layer y)) (λ x y is. subst (λ z. C (roll-Form z)) is (y.kind.1 y.start y.end))
