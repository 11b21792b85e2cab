-- What is written of trees of each kind, and which trees are written as a form.
use Rattle.std.proofs.Common.{◌≡◌, ℕ, List, [], ◌∷◌, ◌++◌, map, Bool, true, false, not, ◌&&◌, length, codes, refl, sym, ◌∙◌, ap, subst}
use Rattle.std.specs.List.{list_all, AllPass}
use Rattle.std.proofs.lemmas.List.{length-map}
use Rattle.sexp_text.specs.declared.form.Form.{Form}
use Rattle.sort_term.specs.Names.{is_reserved_word}
use Rattle.rule_text.specs.Operators.{is_operator}
use Rattle.rule_text.specs.Plain.{plain_word, plain_number, plain_list}
use Rattle.rule_text.specs.Written.{flag_word, written_pair, written_node, written_tree}
use Rattle.rule_text.specs.Lawful.{has_maps, has_operators, is_lawful_node, is_lawful_tree}
use Rattle.rule_text.specs.Writes.{WritesTree}
use Rattle.rule_text.specs.declared.tree.Place.{Place}
use Rattle.rule_text.specs.declared.item.RawTree.{RawTree, RawTree-F, out-RawTree, roll-RawTree, roll-out-RawTree, fold-RawTree, fold-roll-RawTree}
use Rattle.rule_text.specs.declared.item.RawTree.TheVariants.{Word, Number, Flag, Bits, Map, Con, Op, rolls-Word, rolls-Number, rolls-Flag, rolls-Bits, rolls-Map, rolls-Con, rolls-Op}
use Rattle.rule_text.proofs.Plain.{same_word, same_number, same_list, word_no_number, word_no_list, number_no_list}
use Rattle.sexp_text.proofs.Truth.{and_left, and_right, not_true}
use Rattle.rule_text.proofs.Lists.{AllPass_of}

-- what a fold gives for each kind
module _ (A : Type 0) (node : RawTree-F A → A) where
  pub fold-Word : (name : List ℕ) → fold-RawTree A node (Word name) ≡ node (RawTree-F.Word name)
  fold-Word name = ap (fold-RawTree A node) (sym (rolls-Word name)) ∙ fold-roll-RawTree A node (RawTree-F.Word name)

  pub fold-Number : (n : ℕ) → fold-RawTree A node (Number n) ≡ node (RawTree-F.Number n)
  fold-Number n = ap (fold-RawTree A node) (sym (rolls-Number n)) ∙ fold-roll-RawTree A node (RawTree-F.Number n)

  pub fold-Flag : (b : Bool) → fold-RawTree A node (Flag b) ≡ node (RawTree-F.Flag b)
  fold-Flag b = ap (fold-RawTree A node) (sym (rolls-Flag b)) ∙ fold-roll-RawTree A node (RawTree-F.Flag b)

  pub fold-Bits : (width n : ℕ) → fold-RawTree A node (Bits width n) ≡ node (RawTree-F.Bits width n)
  fold-Bits width n = ap (fold-RawTree A node) (sym (rolls-Bits width n)) ∙ fold-roll-RawTree A node (RawTree-F.Bits width n)

  pub fold-Map : (key word : ℕ) (entries : List (ℕ × ℕ)) → fold-RawTree A node (Map key word entries) ≡ node (RawTree-F.Map key word entries)
  fold-Map key word entries = ap (fold-RawTree A node) (sym (rolls-Map key word entries)) ∙ fold-roll-RawTree A node (RawTree-F.Map key word entries)

  pub fold-Con : (name : List ℕ) (args : List RawTree) → fold-RawTree A node (Con name args) ≡ node (RawTree-F.Con name (map (fold-RawTree A node) args))
  fold-Con name args = ap (fold-RawTree A node) (sym (rolls-Con name args)) ∙ fold-roll-RawTree A node (RawTree-F.Con name args)

  pub fold-Op : (name numbers : List ℕ) (args : List RawTree) → fold-RawTree A node (Op name numbers args) ≡ node (RawTree-F.Op name numbers (map (fold-RawTree A node) args))
  fold-Op name numbers args = ap (fold-RawTree A node) (sym (rolls-Op name numbers args)) ∙ fold-roll-RawTree A node (RawTree-F.Op name numbers args)

-- a claim on each tree, by its kind
module _ (C : RawTree → Type 0) (word : (name : List ℕ) → C (Word name)) (number : (n : ℕ) → C (Number n)) (flag : (b : Bool) → C (Flag b)) (bits : (width n : ℕ) → C (Bits width n)) (of_map : (key word : ℕ) (entries : List (ℕ × ℕ)) → C (Map key word entries)) (con : (name : List ℕ) (args : List RawTree) → C (Con name args)) (op : (name numbers : List ℕ) (args : List RawTree) → C (Op name numbers args)) where
  of_kind : (x : RawTree-F RawTree) → C (roll-RawTree x)
  of_kind (RawTree-F.Word name) = subst C (sym (rolls-Word name)) (word name)
  of_kind (RawTree-F.Number n) = subst C (sym (rolls-Number n)) (number n)
  of_kind (RawTree-F.Flag b) = subst C (sym (rolls-Flag b)) (flag b)
  of_kind (RawTree-F.Bits width n) = subst C (sym (rolls-Bits width n)) (bits width n)
  of_kind (RawTree-F.Map key size entries) = subst C (sym (rolls-Map key size entries)) (of_map key size entries)
  of_kind (RawTree-F.Con name args) = subst C (sym (rolls-Con name args)) (con name args)
  of_kind (RawTree-F.Op name numbers args) = subst C (sym (rolls-Op name numbers args)) (op name numbers args)

  pub by_kind : (t : RawTree) → C t
  by_kind t = subst C (roll-out-RawTree t) (of_kind (out-RawTree t))

-- what a list of forms is written of, by the kinds of trees
abbrev pub bits_forms : ℕ → ℕ → List Form
bits_forms width n = plain_word (codes "bits") ∷ plain_number width ∷ plain_number n ∷ []

abbrev pub map_forms : ℕ → ℕ → List (ℕ × ℕ) → List Form
map_forms key word entries = plain_word (codes "map") ∷ plain_number key ∷ plain_number word ∷ map written_pair entries

abbrev pub con_forms : List ℕ → List RawTree → List Form
con_forms name args = plain_word name ∷ map written_tree args

abbrev pub op_forms : List ℕ → List ℕ → List RawTree → List Form
op_forms name numbers args = plain_word name ∷ (map plain_number numbers ++ map written_tree args)

-- the lawful trees that are written as a word
pub data WordTree (name : List ℕ) (t : RawTree) : Type 0 where
  of_variable : is_reserved_word name ≡ false → t ≡ Word name → WordTree name t
  of_flag : (b : Bool) → name ≡ flag_word b → t ≡ Flag b → WordTree name t

pub word_tree : (place : Place) (name : List ℕ) (t : RawTree) → WritesTree place (plain_word name) t → WordTree name t
word_tree place name =
    by_kind (λ t. WritesTree place (plain_word name) t → WordTree name t)
    (λ other w. let same : name ≡ other = same_word name other (w.spelled ∙ fold-Word Form written_node other) in of_variable (ap is_reserved_word same ∙ not_true (is_reserved_word other) (sym (fold-Word Bool (is_lawful_node place) other) ∙ w.lawful)) (ap Word (sym same)))
    (λ n w. absurd (word_no_number name n (w.spelled ∙ fold-Number Form written_node n)))
    (λ b w. of_flag b (same_word name (flag_word b) (w.spelled ∙ fold-Flag Form written_node b)) refl)
    (λ width n w. absurd (word_no_list name (bits_forms width n) (w.spelled ∙ fold-Bits Form written_node width n)))
    (λ key size entries w. absurd (word_no_list name (map_forms key size entries) (w.spelled ∙ fold-Map Form written_node key size entries)))
    (λ other args w. absurd (word_no_list name (con_forms other args) (w.spelled ∙ fold-Con Form written_node other args)))
    (λ other numbers args w. absurd (word_no_list name (op_forms other numbers args) (w.spelled ∙ fold-Op Form written_node other numbers args)))

-- the only tree that is written as a number
pub number_tree : (place : Place) (number : ℕ) (t : RawTree) → WritesTree place (plain_number number) t → t ≡ Number number
number_tree place number =
    by_kind (λ t. WritesTree place (plain_number number) t → t ≡ Number number)
    (λ name w. absurd (word_no_number name number (sym (w.spelled ∙ fold-Word Form written_node name))))
    (λ n w. ap Number (sym (same_number number n (w.spelled ∙ fold-Number Form written_node n))))
    (λ b w. absurd (word_no_number (flag_word b) number (sym (w.spelled ∙ fold-Flag Form written_node b))))
    (λ width n w. absurd (number_no_list number (bits_forms width n) (w.spelled ∙ fold-Bits Form written_node width n)))
    (λ key size entries w. absurd (number_no_list number (map_forms key size entries) (w.spelled ∙ fold-Map Form written_node key size entries)))
    (λ name args w. absurd (number_no_list number (con_forms name args) (w.spelled ∙ fold-Con Form written_node name args)))
    (λ name numbers args w. absurd (number_no_list number (op_forms name numbers args) (w.spelled ∙ fold-Op Form written_node name numbers args)))

-- the lawful trees that are written as a list
pub data ListTree (place : Place) (forms : List Form) (t : RawTree) : Type 0 where
  of_bits : (width n : ℕ) → forms ≡ bits_forms width n → t ≡ Bits width n → ListTree place forms t
  of_map : (key word : ℕ) (entries : List (ℕ × ℕ)) → forms ≡ map_forms key word entries → has_maps place ≡ true → t ≡ Map key word entries → ListTree place forms t
  of_con : (name : List ℕ) (args : List RawTree) → forms ≡ con_forms name args → is_reserved_word name ≡ false → AllPass (is_lawful_tree place) args → t ≡ Con name args → ListTree place forms t
  of_op : (name numbers : List ℕ) (args : List RawTree) → forms ≡ op_forms name numbers args → has_operators place ≡ true → is_operator name (length numbers) (length args) ≡ true → AllPass (is_lawful_tree place) args → t ≡ Op name numbers args → ListTree place forms t

con_tree : (place : Place) (forms : List Form) (name : List ℕ) (args : List RawTree) → WritesTree place (plain_list forms) (Con name args) → ListTree place forms (Con name args)
con_tree place forms name args w =
    let lawful : (not (is_reserved_word name) && list_all (λ t. t) (map (is_lawful_tree place) args)) ≡ true = sym (fold-Con Bool (is_lawful_node place) name args) ∙ w.lawful in
    of_con name args (same_list forms (con_forms name args) (w.spelled ∙ fold-Con Form written_node name args)) (not_true _ (and_left _ _ lawful)) (AllPass_of (is_lawful_tree place) args (and_right _ _ lawful)) refl

op_tree : (place : Place) (forms : List Form) (name numbers : List ℕ) (args : List RawTree) → WritesTree place (plain_list forms) (Op name numbers args) → ListTree place forms (Op name numbers args)
op_tree place forms name numbers args w =
    let lawful : (has_operators place && (is_operator name (length numbers) (length (map (is_lawful_tree place) args)) && list_all (λ t. t) (map (is_lawful_tree place) args))) ≡ true = sym (fold-Op Bool (is_lawful_node place) name numbers args) ∙ w.lawful in
    let inner = and_right (has_operators place) _ lawful in
    of_op name numbers args (same_list forms (op_forms name numbers args) (w.spelled ∙ fold-Op Form written_node name numbers args)) (and_left (has_operators place) _ lawful) (ap (is_operator name (length numbers)) (sym (length-map args (is_lawful_tree place))) ∙ and_left _ _ inner) (AllPass_of (is_lawful_tree place) args (and_right _ _ inner)) refl

pub list_tree : (place : Place) (forms : List Form) (t : RawTree) → WritesTree place (plain_list forms) t → ListTree place forms t
list_tree place forms =
    by_kind (λ t. WritesTree place (plain_list forms) t → ListTree place forms t)
    (λ name w. absurd (word_no_list name forms (sym (w.spelled ∙ fold-Word Form written_node name))))
    (λ n w. absurd (number_no_list n forms (sym (w.spelled ∙ fold-Number Form written_node n))))
    (λ b w. absurd (word_no_list (flag_word b) forms (sym (w.spelled ∙ fold-Flag Form written_node b))))
    (λ width n w. of_bits width n (same_list forms (bits_forms width n) (w.spelled ∙ fold-Bits Form written_node width n)) refl)
    (λ key size entries w. of_map key size entries (same_list forms (map_forms key size entries) (w.spelled ∙ fold-Map Form written_node key size entries)) (sym (fold-Map Bool (is_lawful_node place) key size entries) ∙ w.lawful) refl)
    (con_tree place forms)
    (op_tree place forms)
