-- Forms are written of at most one lawful tree.
use Rattle.std.proofs.Common.{◌≡◌, ℕ, List, [], ◌∷◌, ◌++◌, map, true, false, IsTrue, length, codes, refl, sym, ◌∙◌, ap, arith}
use Rattle.std.proofs.lemmas.List.Elements.{All-head, All-tail}
use Rattle.std.specs.List.{AllPass}
use Rattle.sexp_text.specs.Forms.{word_form, number_form, list_form}
use Rattle.sexp_text.specs.declared.form.Form.{Form}
use Rattle.sexp_text.proofs.Induction.{Each, form_ind}
use Rattle.sort_term.specs.Names.{is_reserved_word}
use Rattle.rule_text.specs.Operators.{is_operator}
use Rattle.rule_text.specs.Plain.{plain_word, plain_number, plain_list}
use Rattle.rule_text.specs.Written.{written_pair, written_node, written_tree}
use Rattle.rule_text.specs.Lawful.{is_lawful_tree}
use Rattle.rule_text.specs.Writes.{WritesTree}
use Rattle.rule_text.specs.declared.tree.Place.{Place}
use Rattle.rule_text.specs.declared.item.RawTree.{RawTree}
use Rattle.rule_text.specs.declared.item.RawTree.TheVariants.{Flag, Bits, Map, Con, Op}
use Rattle.rule_text.proofs.Plain.{same_word, same_number, same_list}
use Rattle.rule_text.proofs.OperatorTable.{op_reserved, one_count, bits_no_operator, map_no_operator, row_no_operator, bits_reserved, map_reserved, row_reserved, flag_reserved, one_flag, other_word}
use Rattle.rule_text.proofs.Trees.{fold-Word, fold-Number, fold-Flag, fold-Bits, fold-Map, fold-Con, fold-Op, by_kind, con_forms, op_forms, WordTree, of_variable, of_flag, word_tree, number_tree, ListTree, of_bits, of_map, of_con, of_op, list_tree}

abbrev HasNoSpan : Form → Type 0
HasNoSpan f = (f.start ≡ 0) × (f.end ≡ 0)

without_span : (f g : Form) → f ≡ g → HasNoSpan g → HasNoSpan f
without_span f g e h = (ap (λ (x : Form). x.start) e ∙ h.0, ap (λ (x : Form). x.end) e ∙ h.1)

-- what is written has no span
no_span : (t : RawTree) → HasNoSpan (written_tree t)
no_span = by_kind (λ t. HasNoSpan (written_tree t))
    (λ name. without_span _ _ (fold-Word Form written_node name) (refl, refl))
    (λ n. without_span _ _ (fold-Number Form written_node n) (refl, refl))
    (λ b. without_span _ _ (fold-Flag Form written_node b) (refl, refl))
    (λ width n. without_span _ _ (fold-Bits Form written_node width n) (refl, refl))
    (λ key size entries. without_span _ _ (fold-Map Form written_node key size entries) (refl, refl))
    (λ name args. without_span _ _ (fold-Con Form written_node name args) (refl, refl))
    (λ name numbers args. without_span _ _ (fold-Op Form written_node name numbers args) (refl, refl))

-- so a form that a tree is written as is the same without its span
bare : (place : Place) (make : ℕ → ℕ → Form) (s e : ℕ) (t : RawTree) → (make s e).start ≡ s → (make s e).end ≡ e → WritesTree place (make s e) t → WritesTree place (make 0 0) t
bare place make s e t starts ends w =
    let start : s ≡ 0 = sym starts ∙ ap (λ (f : Form). f.start) w.spelled ∙ (no_span t).0 in
    let end : e ≡ 0 = sym ends ∙ ap (λ (f : Form). f.end) w.spelled ∙ (no_span t).1 in
    record { spelled = sym (ap (λ n. make n e) start ∙ ap (make 0) end) ∙ w.spelled; lawful = w.lawful }

-- at most one lawful tree is written as this form
abbrev pub IsOfOne : Form → Type 0
IsOfOne f = (place : Place) (t u : RawTree) → WritesTree place f t → WritesTree place f u → t ≡ u

-- the same of the forms of a list
same_trees : (place : Place) (fs : List Form) (ts us : List RawTree) → Each IsOfOne fs → fs ≡ map written_tree ts → AllPass (is_lawful_tree place) ts → fs ≡ map written_tree us → AllPass (is_lawful_tree place) us → ts ≡ us
same_trees place [] [] [] each p a q b = refl
same_trees place [] [] (u ∷ us) each p a q b = absurd cc
same_trees place [] (t ∷ ts) us each p a q b = absurd cc
same_trees place (f ∷ fs) [] us each p a q b = absurd cc
same_trees place (f ∷ fs) (t ∷ ts) [] each p a q b = absurd cc
same_trees place (f ∷ fs) (t ∷ ts) (u ∷ us) each p a q b =
    let front : t ≡ u = each.0 place t u record { spelled = cc; lawful = All-head (λ v. IsTrue (is_lawful_tree place v)) t ts a } record { spelled = cc; lawful = All-head (λ v. IsTrue (is_lawful_tree place v)) u us b } in
    let rest : ts ≡ us = same_trees place fs ts us each.1 (cc) (All-tail (λ v. IsTrue (is_lawful_tree place v)) t ts a) (cc) (All-tail (λ v. IsTrue (is_lawful_tree place v)) u us b) in cc

-- behind the same name
same_args : (place : Place) (fs : List Form) (name : List ℕ) (ts us : List RawTree) → Each IsOfOne fs → fs ≡ con_forms name ts → AllPass (is_lawful_tree place) ts → fs ≡ con_forms name us → AllPass (is_lawful_tree place) us → ts ≡ us
same_args place [] name ts us each p a q b = absurd cc
same_args place (f ∷ fs) name ts us each p a q b = same_trees place fs ts us each.1 (cc) a (cc) b

-- behind as many numbers
same_numbered : (place : Place) (fs : List Form) (ms ns : List ℕ) (ts us : List RawTree) → length ms ≡ length ns → Each IsOfOne fs → fs ≡ map plain_number ms ++ map written_tree ts → AllPass (is_lawful_tree place) ts → fs ≡ map plain_number ns ++ map written_tree us → AllPass (is_lawful_tree place) us → (ms ≡ ns) × (ts ≡ us)
same_numbered place fs [] [] ts us count each p a q b = (refl, same_trees place fs ts us each p a q b)
same_numbered place fs [] (n ∷ ns) ts us count each p a q b = absurd (omega arith)
same_numbered place fs (m ∷ ms) [] ts us count each p a q b = absurd (omega arith)
same_numbered place [] (m ∷ ms) (n ∷ ns) ts us count each p a q b = absurd cc
same_numbered place (f ∷ fs) (m ∷ ms) (n ∷ ns) ts us count each p a q b =
    let rest = same_numbered place fs ms ns ts us (omega arith) each.1 (cc) a (cc) b in
    let front : m ≡ n = same_number m n cc in
    let numbers : ms ≡ ns = rest.0 in (cc, rest.1)

same_op_args : (place : Place) (fs : List Form) (name ms ns : List ℕ) (ts us : List RawTree) → length ms ≡ length ns → Each IsOfOne fs → fs ≡ op_forms name ms ts → AllPass (is_lawful_tree place) ts → fs ≡ op_forms name ns us → AllPass (is_lawful_tree place) us → (ms ≡ ns) × (ts ≡ us)
same_op_args place [] name ms ns ts us count each p a q b = absurd cc
same_op_args place (f ∷ fs) name ms ns ts us count each p a q b = same_numbered place fs ms ns ts us count each.1 (cc) a (cc) b

-- the entries of a map
same_pair : (m n k l : ℕ) → written_pair (m, n) ≡ written_pair (k, l) → (m ≡ k) × (n ≡ l)
same_pair m n k l e =
    let parts : plain_number m ∷ plain_number n ∷ [] ≡ plain_number k ∷ plain_number l ∷ [] = same_list _ _ e in
    (same_number m k cc, same_number n l cc)

same_entries : (ps qs : List (ℕ × ℕ)) → map written_pair ps ≡ map written_pair qs → ps ≡ qs
same_entries [] [] e = refl
same_entries [] (q ∷ qs) e = absurd cc
same_entries (p ∷ ps) [] e = absurd cc
same_entries ((m, n) ∷ ps) ((k, l) ∷ qs) e =
    let front = same_pair m n k l cc in
    let key : m ≡ k = front.0 in
    let value : n ≡ l = front.1 in
    let rest : ps ≡ qs = same_entries ps qs cc in cc

-- `bits` and `map` are no other words
bits_no_map : codes "bits" ≡ codes "map" → ⊥
bits_no_map = other_word (codes "bits") (codes "map") refl

bits_no_con : (name : List ℕ) → name ≡ codes "bits" → is_reserved_word name ≡ false → ⊥
bits_no_con name e free = let is : is_reserved_word name ≡ true = ap is_reserved_word e ∙ bits_reserved in cc

map_no_con : (name : List ℕ) → name ≡ codes "map" → is_reserved_word name ≡ false → ⊥
map_no_con name e free = let is : is_reserved_word name ≡ true = ap is_reserved_word e ∙ map_reserved in cc

bits_no_op : (name : List ℕ) (n a : ℕ) → name ≡ codes "bits" → is_operator name n a ≡ true → ⊥
bits_no_op name n a e takes = bits_no_operator n a (ap (λ w. is_operator w n a) (sym e) ∙ takes)

map_no_op : (name : List ℕ) (n a : ℕ) → name ≡ codes "map" → is_operator name n a ≡ true → ⊥
map_no_op name n a e takes = map_no_operator n a (ap (λ w. is_operator w n a) (sym e) ∙ takes)

con_no_op : (con op : List ℕ) (n a : ℕ) → con ≡ op → is_reserved_word con ≡ false → is_operator op n a ≡ true → ⊥
con_no_op con op n a e free takes = let is : is_reserved_word con ≡ true = ap is_reserved_word e ∙ op_reserved op n a takes in cc

-- a list of forms, each of which is written of one tree at most
module _ (place : Place) (fs : List Form) (t u : RawTree) (each : Each IsOfOne fs) where
  same_cons : (name other : List ℕ) (args others : List RawTree) → name ≡ other → fs ≡ con_forms name args → AllPass (is_lawful_tree place) args → fs ≡ con_forms other others → AllPass (is_lawful_tree place) others → Con name args ≡ Con other others
  same_cons name other args others e p a q b =
      let rest : args ≡ others = same_args place fs name args others each p a (q ∙ ap (λ n. con_forms n others) (sym e)) b in
      ap (λ n. Con n args) e ∙ ap (Con other) rest

  same_ops : (name other ms ns : List ℕ) (args others : List RawTree) → name ≡ other → fs ≡ op_forms name ms args → is_operator name (length ms) (length args) ≡ true → AllPass (is_lawful_tree place) args → fs ≡ op_forms other ns others → is_operator other (length ns) (length others) ≡ true → AllPass (is_lawful_tree place) others → Op name ms args ≡ Op other ns others
  same_ops name other ms ns args others e p takes a q too b =
      let counts = one_count name (length ms) (length args) (length ns) (length others) takes (ap (λ n. is_operator n (length ns) (length others)) e ∙ too) in
      let rest = same_op_args place fs name ms ns args others counts.0 each p a (q ∙ ap (λ n. op_forms n ns others) (sym e)) b in
      ap (λ n. Op n ms args) e ∙ ap (λ n. Op other n args) rest.0 ∙ ap (Op other ns) rest.1

  same_list_trees : ListTree place fs t → ListTree place fs u → t ≡ u
  same_list_trees (of_bits width n p is) (of_bits width' n' p' is') =
      let same_width : width ≡ width' = same_number width width' cc in
      let same_n : n ≡ n' = same_number n n' cc in is ∙ ap (λ w. Bits w n) same_width ∙ ap (Bits width') same_n ∙ sym is'
  same_list_trees (of_bits width n p is) (of_map key size entries p' _ is') = absurd (bits_no_map (same_word (codes "bits") (codes "map") cc))
  same_list_trees (of_bits width n p is) (of_con name args q free all is') = absurd (bits_no_con name (same_word name (codes "bits") cc) free)
  same_list_trees (of_bits width n p is) (of_op name numbers args q here takes all is') = absurd (bits_no_op name _ _ (same_word name (codes "bits") cc) takes)
  same_list_trees (of_map key size entries p _ is) (of_bits width n p' is') = absurd (bits_no_map (same_word (codes "bits") (codes "map") cc))
  same_list_trees (of_map key size entries p _ is) (of_map key' size' entries' p' _ is') =
      let same_key : key ≡ key' = same_number key key' cc in
      let same_size : size ≡ size' = same_number size size' cc in
      let rest : entries ≡ entries' = same_entries entries entries' cc in
      is ∙ ap (λ k. Map k size entries) same_key ∙ ap (λ w. Map key' w entries) same_size ∙ ap (Map key' size') rest ∙ sym is'
  same_list_trees (of_map key size entries p _ is) (of_con name args q free all is') = absurd (map_no_con name (same_word name (codes "map") cc) free)
  same_list_trees (of_map key size entries p _ is) (of_op name numbers args q here takes all is') = absurd (map_no_op name _ _ (same_word name (codes "map") cc) takes)
  same_list_trees (of_con name args q free all is) (of_bits width n p is') = absurd (bits_no_con name (same_word name (codes "bits") cc) free)
  same_list_trees (of_con name args q free all is) (of_map key size entries p _ is') = absurd (map_no_con name (same_word name (codes "map") cc) free)
  same_list_trees (of_con name args p free all is) (of_con name' args' p' free' all' is') = is ∙ same_cons name name' args args' (same_word name name' cc) p all p' all' ∙ sym is'
  same_list_trees (of_con name args p free all is) (of_op name' numbers args' p' here takes all' is') = absurd (con_no_op name name' _ _ (same_word name name' cc) free takes)
  same_list_trees (of_op name numbers args q here takes all is) (of_bits width n p is') = absurd (bits_no_op name _ _ (same_word name (codes "bits") cc) takes)
  same_list_trees (of_op name numbers args q here takes all is) (of_map key size entries p _ is') = absurd (map_no_op name _ _ (same_word name (codes "map") cc) takes)
  same_list_trees (of_op name numbers args p here takes all is) (of_con name' args' p' free all' is') = absurd (con_no_op name' name _ _ (same_word name' name cc) free takes)
  same_list_trees (of_op name numbers args p here takes all is) (of_op name' numbers' args' p' here' takes' all' is') = is ∙ same_ops name name' numbers numbers' args args' (same_word name name' cc) p takes all p' takes' all' ∙ sym is'

-- words
same_word_trees : (name : List ℕ) (t u : RawTree) → WordTree name t → WordTree name u → t ≡ u
same_word_trees name t u (of_variable free is) (of_variable _ is') = is ∙ sym is'
same_word_trees name t u (of_variable free is) (of_flag b e is') = let reserved : is_reserved_word name ≡ true = ap is_reserved_word e ∙ flag_reserved b in absurd cc
same_word_trees name t u (of_flag b e is) (of_variable free is') = let reserved : is_reserved_word name ≡ true = ap is_reserved_word e ∙ flag_reserved b in absurd cc
same_word_trees name t u (of_flag b e is) (of_flag c d is') = is ∙ ap Flag (one_flag b c (sym e ∙ d)) ∙ sym is'

of_one : (f : Form) → IsOfOne f
of_one = form_ind IsOfOne
    (λ name s e place t u w v. same_word_trees name t u (word_tree place name t (bare place (word_form name) s e t refl refl w)) (word_tree place name u (bare place (word_form name) s e u refl refl v)))
    (λ n s e place t u w v. number_tree place n t (bare place (number_form n) s e t refl refl w) ∙ sym (number_tree place n u (bare place (number_form n) s e u refl refl v)))
    (λ fs s e each place t u w v. same_list_trees place fs t u each (list_tree place fs t (bare place (list_form fs) s e t refl refl w)) (list_tree place fs u (bare place (list_form fs) s e u refl refl v)))

-- lawful trees that are written alike are the same
pub same_tree : (place : Place) (t u : RawTree) → written_tree t ≡ written_tree u → IsTrue (is_lawful_tree place t) → IsTrue (is_lawful_tree place u) → t ≡ u
same_tree place t u e a b = of_one (written_tree t) place t u record { spelled = refl; lawful = a } record { spelled = e; lawful = b }

-- `row` begins no tree
pub no_row : (place : Place) (t : RawTree) (rest : List Form) → written_tree t ≡ plain_list (plain_word (codes "row") ∷ rest) → IsTrue (is_lawful_tree place t) → ⊥
no_row place t rest e a = of_row (list_tree place (plain_word (codes "row") ∷ rest) t record { spelled = sym e; lawful = a })
  where
    of_row : ListTree place (plain_word (codes "row") ∷ rest) t → ⊥
    of_row (of_bits width n p is) = other_word (codes "row") (codes "bits") refl (same_word _ _ cc)
    of_row (of_map key size entries p _ is) = other_word (codes "row") (codes "map") refl (same_word _ _ cc)
    of_row (of_con name args p free all is) = let reserved : is_reserved_word name ≡ true = ap is_reserved_word (same_word name (codes "row") cc) ∙ row_reserved in cc
    of_row (of_op name numbers args p here takes all is) = row_no_operator (length numbers) (length args) (ap (λ w. is_operator w (length numbers) (length args)) (same_word (codes "row") name cc) ∙ takes)
