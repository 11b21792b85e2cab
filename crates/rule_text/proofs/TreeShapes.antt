-- Which trees a list of forms is, as the reader of trees takes it apart.
use Rattle.std.proofs.Common.{◌≡◌, ◌≢◌, ◌≤◌, ◌+◌, ◌-◌, inl, inr, ℕ, List, [], ◌∷◌, ◌++◌, map, Bool, true, false, not, length, get_or, take, drop, codes, refl, sym, ◌∙◌, ap, subst, arith, length-drop, length-append}
use Rattle.std.specs.List.{AllPass}
use Rattle.std.proofs.lemmas.List.{take_all, map-append, length-map, length-take-le, take-append-drop}
use Rattle.sexp_text.specs.Printed.{without_spans}
use Rattle.sexp_text.specs.declared.form.Form.{Form}
use Rattle.sort_term.specs.Names.{is_reserved_word}
use Rattle.rule_text.specs.Operators.{is_operator}
use Rattle.rule_text.specs.Plain.{plain_word, plain_number, plain_list}
use Rattle.rule_text.specs.Written.{written_pair, written_node, written_tree}
use Rattle.rule_text.specs.Lawful.{has_maps, has_operators, is_lawful_node, is_lawful_tree}
use Rattle.rule_text.specs.Writes.{IsHead, WritesTree, WritesTrees, WritesFront}
use Rattle.rule_text.specs.declared.tree.Place.{Place}
use Rattle.rule_text.specs.declared.item.RawTree.{RawTree}
use Rattle.rule_text.specs.declared.item.RawTree.TheVariants.{Bits, Map, Con, Op}
use Rattle.rule_text.proofs.Plain.{same_word}
use Rattle.rule_text.proofs.Lists.{list_all_of, and_true}
use Rattle.rule_text.proofs.Slices.{list_cons, list_2_up, length_of, parts_at}
use Rattle.rule_text.proofs.OperatorTable.{op_reserved, one_count, bits_no_operator, map_no_operator, other_word, bits_reserved, map_reserved}
use Rattle.rule_text.proofs.Trees.{fold-Bits, fold-Map, fold-Con, fold-Op, con_forms, op_forms, ListTree, of_bits, of_map, of_con, of_op, list_tree}

-- a constructor with lawful arguments
con_written : (place : Place) (name : List ℕ) (args : List RawTree) → is_reserved_word name ≡ false → AllPass (is_lawful_tree place) args → WritesTree place (plain_list (con_forms name args)) (Con name args)
con_written place name args free all = record {
  spelled = sym (fold-Con Form written_node name args);
  lawful = fold-Con Bool (is_lawful_node place) name args ∙ and_true _ _ (ap not free) (list_all_of (is_lawful_tree place) args all);
}

-- an operator with its numbers and lawful arguments
op_written : (place : Place) (name numbers : List ℕ) (args : List RawTree) → has_operators place ≡ true → is_operator name (length numbers) (length args) ≡ true → AllPass (is_lawful_tree place) args → WritesTree place (plain_list (op_forms name numbers args)) (Op name numbers args)
op_written place name numbers args here takes all = record {
  spelled = sym (fold-Op Form written_node name numbers args);
  lawful = fold-Op Bool (is_lawful_node place) name numbers args ∙ and_true _ _ here (and_true _ _ (ap (is_operator name (length numbers)) (length-map args (is_lawful_tree place)) ∙ takes) (list_all_of (is_lawful_tree place) args all));
}

-- a name that isn't reserved stands before arguments alone
pub con_applied : (place : Place) (name numbers : List ℕ) (args : List RawTree) → is_reserved_word name ≡ false → IsHead place name (length numbers) (length args) → AllPass (is_lawful_tree place) args → WritesTree place (plain_list (op_forms name numbers args)) (Con name args)
con_applied place name [] args free head all = con_written place name args free all
con_applied place name (n ∷ numbers) args free (inl con) all = let none : length (n ∷ numbers) ≡ 0 = con.1 in absurd (omega arith)
con_applied place name (n ∷ numbers) args free (inr op) all = let reserved = op_reserved name _ _ op.1 in absurd cc

-- a reserved name is that of an operator
pub op_applied : (place : Place) (name numbers : List ℕ) (args : List RawTree) → is_reserved_word name ≡ true → IsHead place name (length numbers) (length args) → AllPass (is_lawful_tree place) args → WritesTree place (plain_list (op_forms name numbers args)) (Op name numbers args)
op_applied place name numbers args reserved (inl con) all = let free : is_reserved_word name ≡ false = con.0 in absurd cc
op_applied place name numbers args reserved (inr op) all = op_written place name numbers args op.0 op.1 all

-- the first form of a list and the forms behind it
pub split_tree : (place : Place) (forms : List Form) (front : Form) (t : RawTree) → 1 ≤ length forms → front ≡ get_or forms 0 front → WritesTree place (plain_list (map without_spans forms)) t → ListTree place (without_spans front ∷ map without_spans (take (length forms - 1) (drop 1 forms))) t
split_tree place forms front t low is w = subst (λ (fs : List Form). ListTree place (map without_spans fs) t) (list_cons forms front low is) (list_tree place (map without_spans forms) t w)

-- the word in front of the forms behind it
pub behind_front : (forms : List Form) (front : Form) (word : List ℕ) → 1 ≤ length forms → front ≡ get_or forms 0 front → without_spans front ≡ plain_word word → plain_word word ∷ map without_spans (take (length forms - 1) (drop 1 forms)) ≡ map without_spans forms
behind_front forms front word low p is = ap (λ w. w ∷ map without_spans (take (length forms - 1) (drop 1 forms))) (sym is) ∙ ap (map without_spans) (sym (list_cons forms front low p))

-- a bit vector
pub bits_written : (place : Place) (forms : List Form) (front : Form) (width n : ℕ) → 1 ≤ length forms → front ≡ get_or forms 0 front → without_spans front ≡ plain_word (codes "bits") → map without_spans (take (length forms - 1) (drop 1 forms)) ≡ plain_number width ∷ plain_number n ∷ [] → WritesTree place (plain_list (map without_spans forms)) (Bits width n)
bits_written place forms front width n low is word numbers =
    let parts : map without_spans forms ≡ plain_word (codes "bits") ∷ plain_number width ∷ plain_number n ∷ [] = ap (map without_spans) (list_cons forms front low is) ∙ cc in
    record { spelled = ap plain_list parts ∙ sym (fold-Bits Form written_node width n); lawful = fold-Bits Bool (is_lawful_node place) width n }

-- a map
pub map_written : (place : Place) (rest : List Form) (key word : ℕ) (entries : List (ℕ × ℕ)) → has_maps place ≡ true → rest ≡ plain_number key ∷ plain_number word ∷ map written_pair entries → WritesTree place (plain_list (plain_word (codes "map") ∷ rest)) (Map key word entries)
map_written place rest key word entries here e = record {
  spelled = ap (λ fs. plain_list (plain_word (codes "map") ∷ fs)) e ∙ sym (fold-Map Form written_node key word entries);
  lawful = fold-Map Bool (is_lawful_node place) key word entries ∙ here;
}

pub map_spelled : (parts rest : List Form) (first second : Form) (key word : ℕ) (entries : List (ℕ × ℕ)) → parts ≡ first ∷ second ∷ rest → without_spans first ≡ plain_number key → without_spans second ≡ plain_number word → map without_spans rest ≡ map written_pair entries → map without_spans parts ≡ plain_number key ∷ plain_number word ∷ map written_pair entries
map_spelled parts rest first second key word entries split k w all = ap (map without_spans) split ∙ cc

-- what stands behind `map`
pub map_parts : (place : Place) (rest : List Form) (t : RawTree) → WritesTree place (plain_list (plain_word (codes "map") ∷ rest)) t → (key : ℕ) × (word : ℕ) × (entries : List (ℕ × ℕ)) × (rest ≡ plain_number key ∷ plain_number word ∷ map written_pair entries) × (has_maps place ≡ true)
map_parts place rest t w = of (list_tree place (plain_word (codes "map") ∷ rest) t w)
  where
    of : ListTree place (plain_word (codes "map") ∷ rest) t → (key : ℕ) × (word : ℕ) × (entries : List (ℕ × ℕ)) × (rest ≡ plain_number key ∷ plain_number word ∷ map written_pair entries) × (has_maps place ≡ true)
    of (of_bits width n e _) = absurd (other_word (codes "map") (codes "bits") refl (same_word _ _ cc))
    of (of_map key word entries e here _) = (key, word, entries, cc, here)
    of (of_con name args e free all _) = let reserved : is_reserved_word name ≡ true = ap is_reserved_word (same_word name (codes "map") cc) ∙ map_reserved in absurd cc
    of (of_op name numbers args e here takes all _) = absurd (map_no_operator (length numbers) (length args) (ap (λ n. is_operator n (length numbers) (length args)) (same_word (codes "map") name cc) ∙ takes))

-- the same of forms with spans
pub map_split : (place : Place) (forms : List Form) (key word : Form) (t : RawTree) → 2 ≤ length forms → key ≡ get_or forms 0 key → word ≡ get_or forms 1 word → WritesTree place (plain_list (plain_word (codes "map") ∷ map without_spans forms)) t → (m : ℕ) × (n : ℕ) × (entries : List (ℕ × ℕ)) × (without_spans key ≡ plain_number m) × (without_spans word ≡ plain_number n) × (map without_spans (take (length forms - 2) (drop 2 forms)) ≡ map written_pair entries)
map_split place forms key word t low p q w =
    let all = ap (map without_spans) (list_2_up forms key word low p q) in
    let parts = map_parts place (map without_spans forms) t w in
    let whole = parts.3 in
    (parts.0, parts.1, parts.2, cc, cc, cc)

-- a list of no forms is no tree
pub no_nothing : (place : Place) (t : RawTree) → ListTree place [] t → ⊥
no_nothing place t (of_bits width n e _) = cc
no_nothing place t (of_map key word entries e here _) = cc
no_nothing place t (of_con name args e free all _) = cc
no_nothing place t (of_op name numbers args e here takes all _) = cc

-- a name in front of numbers and lawful arguments
pub record Application (place : Place) (name : List ℕ) (rest : List Form) : Type 0 where
  pub numbers : List ℕ
  pub args : List RawTree
  pub spelled : rest ≡ map plain_number numbers ++ map written_tree args
  pub head : IsHead place name (length numbers) (length args)
  pub lawful : AllPass (is_lawful_tree place) args

module _ (place : Place) (front : Form) (rest : List Form) (t : RawTree) where
  -- `bits` goes before two numbers alone
  pub no_bits : front ≡ plain_word (codes "bits") → ((m n : ℕ) → rest ≢ plain_number m ∷ plain_number n ∷ []) → ListTree place (front ∷ rest) t → ⊥
  no_bits is others (of_bits width n e _) = others width n cc
  no_bits is others (of_map key word entries e here _) = other_word (codes "bits") (codes "map") refl (same_word _ _ cc)
  no_bits is others (of_con name args e free all _) = let reserved : is_reserved_word name ≡ true = ap is_reserved_word (same_word name (codes "bits") cc) ∙ bits_reserved in cc
  no_bits is others (of_op name numbers args e here takes all _) = bits_no_operator (length numbers) (length args) (ap (λ n. is_operator n (length numbers) (length args)) (same_word (codes "bits") name cc) ∙ takes)

  -- a list begins with a word
  pub front_name : ListTree place (front ∷ rest) t → (name : List ℕ) × (front ≡ plain_word name)
  front_name (of_bits width n e _) = (codes "bits", cc)
  front_name (of_map key word entries e here _) = (codes "map", cc)
  front_name (of_con name args e free all _) = (name, cc)
  front_name (of_op name numbers args e here takes all _) = (name, cc)

  -- behind another word than `bits` and `map` go numbers and lawful arguments
  pub application : (name : List ℕ) → front ≡ plain_word name → front ≢ plain_word (codes "bits") → front ≢ plain_word (codes "map") → ListTree place (front ∷ rest) t → Application place name rest
  application name is no_bits no_map (of_bits width n e _) = absurd (no_bits cc)
  application name is no_bits no_map (of_map key word entries e here _) = absurd (no_map cc)
  application name is no_bits no_map (of_con other args e free all _) =
      let same : name ≡ other = same_word name other cc in
      record { numbers = []; args = args; spelled = cc; head = inl (ap is_reserved_word same ∙ free, refl); lawful = all }
  application name is no_bits no_map (of_op other numbers args e here takes all _) =
      let same : name ≡ other = same_word name other cc in
      record { numbers = numbers; args = args; spelled = cc; head = inr (here, ap (λ n. is_operator n (length numbers) (length args)) same ∙ takes); lawful = all }

-- a name has one number of numbers before so many forms
one_head : (place : Place) (name : List ℕ) (n a m b : ℕ) → n + a ≡ m + b → IsHead place name n a → IsHead place name m b → n ≡ m
one_head place name n a m b sum (inl con) (inl con') = con.1 ∙ sym con'.1
one_head place name n a m b sum (inl con) (inr op) = let free : is_reserved_word name ≡ false = con.0 in let reserved = op_reserved name m b op.1 in absurd cc
one_head place name n a m b sum (inr op) (inl con) = let free : is_reserved_word name ≡ false = con.0 in let reserved = op_reserved name n a op.1 in absurd cc
one_head place name n a m b sum (inr op) (inr op') = (one_count name n a m b op.1 op'.1).0

module _ (place : Place) (name : List ℕ) (rest : List Form) (app : Application place name (map without_spans rest)) where
  counted : length app.numbers + length app.args ≡ length rest
  counted = rw (sym (length-map app.numbers plain_number), sym (length-map app.args written_tree)) (sym (length-append (map plain_number app.numbers) (map written_tree app.args)) ∙ ap length (sym app.spelled) ∙ length-map rest without_spans)

  parts : (count : ℕ) → count ≡ length app.numbers → (map without_spans (take count rest) ≡ map plain_number app.numbers) × (map without_spans (drop count rest) ≡ map written_tree app.args)
  parts count same = parts_at without_spans rest count (map plain_number app.numbers) (map written_tree app.args) app.spelled (same ∙ sym (length-map app.numbers plain_number))

  -- the name and the numbers stand in front
  front_written : (front : Form) → without_spans front ≡ plain_word name → WritesFront place front rest (name, app.numbers)
  front_written front is =
      let sum = counted in
      let others : length app.args ≡ length rest - length app.numbers = omega arith in
      record { name = is; within = omega arith; numbers = (parts (length app.numbers) refl).0; head = subst (IsHead place name (length app.numbers)) others app.head }

  -- and all other forms are the arguments
  args_written : (count : ℕ) → count ≤ length rest → IsHead place name count (length rest - count) → WritesTrees place (map without_spans (take (length rest - count) (drop count rest))) app.args
  args_written count within head =
      let sum = counted in
      let same : count ≡ length app.numbers = one_head place name count (length rest - count) (length app.numbers) (length app.args) (omega arith) head app.head in
      let all : length (drop count rest) ≤ length rest - count = simp length-drop (omega arith) in
      record { spelled = ap (map without_spans) (take_all (length rest - count) (drop count rest) all) ∙ (parts count same).1; lawful = app.lawful }

module _ (place : Place) (front : Form) (rest : List Form) (t : RawTree) (no_bits : without_spans front ≢ plain_word (codes "bits")) (no_map : without_spans front ≢ plain_word (codes "map")) (tree : ListTree place (without_spans front ∷ map without_spans rest) t) where
  apply : (name : List ℕ) → without_spans front ≡ plain_word name → Application place name (map without_spans rest)
  apply name is = application place (without_spans front) (map without_spans rest) t name is no_bits no_map tree

  -- the list begins with a name and its numbers
  pub front_of : (named : List ℕ × List ℕ) × WritesFront place front rest named
  front_of =
      let word = front_name place (without_spans front) (map without_spans rest) t tree in
      let app = apply word.0 word.1 in
      ((word.0, app.numbers), front_written place word.0 rest app front word.1)

  -- behind them are arguments
  pub args_behind : (name numbers : List ℕ) (count : ℕ) → count ≡ length numbers → WritesFront place front rest (name, numbers) → (args : List RawTree) × WritesTrees place (map without_spans (take (length rest - count) (drop count rest))) args
  args_behind name numbers count is w =
      let app = apply name w.name in
      (app.args, args_written place name rest app count (subst (λ n. n ≤ length rest) (sym is) w.within) (subst (λ n. IsHead place name n (length rest - n)) (sym is) w.head))

module _ (place : Place) (front : Form) (rest : List Form) (name : List ℕ) (is : without_spans front ≡ plain_word name) where
  head_of : (named : List ℕ × List ℕ) → WritesFront place front rest named → IsHead place name (length named.1) (length rest - length named.1)
  head_of named w = subst (λ n. IsHead place n (length named.1) (length rest - length named.1)) (same_word _ _ (sym w.name ∙ is)) w.head

  -- the name goes in front of a number of numbers
  pub some_count : ((numbers arguments : ℕ) → numbers + arguments ≡ length rest → ¬ IsHead place name numbers arguments) → (named : List ℕ × List ℕ) → WritesFront place front rest named → ⊥
  some_count none named w = none (length named.1) (length rest - length named.1) (omega (arith, w.within)) (head_of named w)

  module _ (count : ℕ) (within : count ≤ length rest) (head : IsHead place name count (length rest - count)) where
    -- that many forms are numbers
    pub numbers_of : (named : List ℕ × List ℕ) → WritesFront place front rest named → map without_spans (take count rest) ≡ map plain_number named.1
    numbers_of named w =
        let same : length named.1 ≡ count = one_head place name (length named.1) (length rest - length named.1) count (length rest - count) (omega (arith, w.within, within)) (head_of named w) head in
        subst (λ n. map without_spans (take n rest) ≡ map plain_number named.1) same w.numbers

    -- the name with these numbers
    pub numbers_written : (numbers : List ℕ) → map without_spans (take count rest) ≡ map plain_number numbers → WritesFront place front rest (name, numbers)
    numbers_written numbers all =
        let same : count ≡ length numbers = sym (length-take-le count rest within) ∙ length_of without_spans (take count rest) (map plain_number numbers) all ∙ length-map numbers plain_number in
        record {
          name = is;
          within = subst (λ n. n ≤ length rest) same within;
          numbers = subst (λ n. map without_spans (take n rest) ≡ map plain_number numbers) same all;
          head = subst (λ n. IsHead place name n (length rest - n)) same head;
        }

-- a name, its numbers and its arguments
pub all_written : (place : Place) (forms : List Form) (front : Form) (rest : List Form) (name numbers : List ℕ) (args : List RawTree) (count : ℕ) (t : RawTree) → forms ≡ front ∷ rest → WritesFront place front rest (name, numbers) → count ≡ length numbers → WritesTrees place (map without_spans (take (length rest - count) (drop count rest))) args → (IsHead place name (length numbers) (length args) → WritesTree place (plain_list (op_forms name numbers args)) t) → WritesTree place (plain_list (map without_spans forms)) t
all_written place forms front rest name numbers args count t split v is u written =
    let w : WritesTrees place (map without_spans (take (length rest - length numbers) (drop (length numbers) rest))) args = subst (λ n. WritesTrees place (map without_spans (take (length rest - n) (drop n rest))) args) is u in
    let few : length (drop (length numbers) rest) ≤ length rest - length numbers = simp length-drop (omega arith) in
    let tail : map without_spans (drop (length numbers) rest) ≡ map written_tree args = ap (map without_spans) (sym (take_all (length rest - length numbers) (drop (length numbers) rest) few)) ∙ w.spelled in
    let others : length args ≡ length rest - length numbers = sym (length_of without_spans (drop (length numbers) rest) (map written_tree args) tail ∙ length-map args written_tree) ∙ length-drop (length numbers) rest in
    let whole : map without_spans rest ≡ map plain_number numbers ++ map written_tree args = ap (map without_spans) (sym (take-append-drop (length numbers) rest)) ∙ map-append without_spans (take (length numbers) rest) (drop (length numbers) rest) ∙ ap (λ fs. fs ++ map without_spans (drop (length numbers) rest)) v.numbers ∙ ap (λ fs. map plain_number numbers ++ fs) tail in
    let begins = v.name in
    let forms_are : map without_spans forms ≡ op_forms name numbers args = ap (map without_spans) split ∙ cc in
    subst (λ fs. WritesTree place (plain_list fs) t) (sym forms_are) (written (subst (IsHead place name (length numbers)) (sym others) v.head))

-- a reserved word stands before as much as its operator takes
pub as_operator : (place : Place) (name : List ℕ) (n a m b : ℕ) → is_reserved_word name ≡ true → is_operator name n a ≡ true → IsHead place name m b → (m ≡ n) × (b ≡ a)
as_operator place name n a m b reserved takes (inl con) = let free : is_reserved_word name ≡ false = con.0 in absurd cc
as_operator place name n a m b reserved takes (inr op) = one_count name m b n a op.1 takes
