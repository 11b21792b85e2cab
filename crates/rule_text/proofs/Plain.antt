-- Forms of different kinds differ, and those of one kind have what they are made of.
use Rattle.std.proofs.Common.{◌≡◌, ℕ, List, ap}
use Rattle.sexp_text.specs.declared.form.Form.{Form}
use Rattle.sexp_text.specs.declared.form.FormKind.{FormKind-F, FormKind, out-FormKind}
use Rattle.sexp_text.specs.declared.form.FormKind.TheVariants.{outs-Word, outs-Number, outs-List}
use Rattle.rule_text.specs.Plain.{plain_word, plain_number, plain_list}

-- the outermost layer of a form
layer : Form → FormKind-F FormKind Form
layer f = out-FormKind f.kind

layer-word : (name : List ℕ) → layer (plain_word name) ≡ FormKind-F.Word name
unfolding layer
layer-word name = outs-Word name

layer-number : (n : ℕ) → layer (plain_number n) ≡ FormKind-F.Number n
unfolding layer
layer-number n = outs-Number n

layer-list : (forms : List Form) → layer (plain_list forms) ≡ FormKind-F.List forms
unfolding layer
layer-list forms = outs-List forms

pub same_word : (a b : List ℕ) → plain_word a ≡ plain_word b → a ≡ b
same_word a b e = let f : layer (plain_word a) ≡ layer (plain_word b) = ap layer e in cc (layer-word a, layer-word b)

pub same_number : (a b : ℕ) → plain_number a ≡ plain_number b → a ≡ b
same_number a b e = let f : layer (plain_number a) ≡ layer (plain_number b) = ap layer e in cc (layer-number a, layer-number b)

pub same_list : (a b : List Form) → plain_list a ≡ plain_list b → a ≡ b
same_list a b e = let f : layer (plain_list a) ≡ layer (plain_list b) = ap layer e in cc (layer-list a, layer-list b)

pub word_no_number : (a : List ℕ) (b : ℕ) → plain_word a ≡ plain_number b → ⊥
word_no_number a b e = let f : layer (plain_word a) ≡ layer (plain_number b) = ap layer e in cc (layer-word a, layer-number b)

pub word_no_list : (a : List ℕ) (b : List Form) → plain_word a ≡ plain_list b → ⊥
word_no_list a b e = let f : layer (plain_word a) ≡ layer (plain_list b) = ap layer e in cc (layer-word a, layer-list b)

pub number_no_list : (a : ℕ) (b : List Form) → plain_number a ≡ plain_list b → ⊥
number_no_list a b e = let f : layer (plain_number a) ≡ layer (plain_list b) = ap layer e in cc (layer-number a, layer-list b)
