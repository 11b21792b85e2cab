-- What is written of a value in a place of its sort is read as this value.
use Rattle.std.proofs.Common.{arith, ◌≡◌, ◌≤◌, ◌<◌, ◌^◌, ◌==◌, ℕ, Bool, true, false, not, ◌&&◌, nat_lt, nat_le, List, [], ◌∷◌, map, codes, Some, None, refl, ap, ◌∙◌}
use Rattle.std.specs.Prelude.{filter, option_and_then, if◌then◌else◌}
use Rattle.std.specs.List.{list_all}
use Rattle.std.proofs.lemmas.Bool.{and_parts, and_from, ltb-true, lt-ltb, leb-true, ne_eqb}
use Rattle.data_value.specs.declared.DataSort.TheVariants.{Bool as BoolSort, Bits as BitsSort, Map as MapSort}
use Rattle.data_value.specs.declared.Scalar.TheVariants.{Flag, Bits}
use Rattle.data_value.specs.declared.Value.{Value}
use Rattle.data_value.specs.declared.Value.TheVariants.{One, Map}
use Rattle.data_value.specs.Maps.{Mapping, rises_from, fits_entry, is_mapping}
use Rattle.data_value.specs.Sorts.{is_width}
use Rattle.data_value.specs.Values.{value_sort, is_value}
use Rattle.data_value.proofs.WordLemmas.{two_to_le}
use Rattle.sexp_text.specs.declared.form.Form.{Form}
use Rattle.sexp_text.specs.Printed.{is_word, is_printable}
use Rattle.sexp_text.proofs.Equations.{printable-word, printable-number, printable-list}
use Rattle.rule_text.specs.Lawful.{is_lawful_node, is_lawful_tree}
use Rattle.rule_text.specs.Plain.{plain_number, plain_list}
use Rattle.rule_text.specs.Written.{flag_word, written_pair, written_node, written_tree}
use Rattle.rule_text.specs.declared.tree.Place.TheVariants.{Ground}
use Rattle.rule_text.specs.declared.item.RawTree.{RawTree}
use Rattle.rule_text.proofs.Trees.{fold-Flag, fold-Number, fold-Map, map_forms}
use Rattle.sort_term.specs.declared.term.Sort.{Sort}
use Rattle.sort_term.specs.declared.term.Sort.TheVariants.{Plain}
use Rattle.sort_term.specs.declared.term.Term.TheVariants as term
use Rattle.sort_term.specs.Tree.{Tree}
use Rattle.name_resolution.specs.Known.{Vocabulary, is_pair_within, are_entries, mapping_of}
use Rattle.name_resolution.specs.Named.{is_named_node, is_named_tree}
use Rattle.name_resolution.specs.Reads.{Said, argument, said, scalar_literal, map_literal, ground_reading, node_says, tree_says}
use Rattle.name_resolution.specs.Within.{Asked, is_within_place, asked_node, asked}
use Rattle.report_text.specs.Again.{raw_value}

-- What is written of a tree, in a place of this sort: it has the words and numbers of the grammar, may stand in a ground term,
-- names what is known, keeps the limits on numbers, and is read as the tree.
pub record IsReread (known : Vocabulary) (a : Sort) (t : Tree) (raw : RawTree) : Type 0 where
  pub printable : is_printable (written_tree raw) ≡ true
  pub lawful : is_lawful_tree Ground raw ≡ true
  pub named : is_named_tree known [] raw ≡ true
  pub within : is_within_place (Some a) (asked known raw) ≡ true
  pub reads : argument ground_reading (Some a) (tree_says ground_reading known [] raw) ≡ Some t

-- a number of at most 64 bits is one of the grammar
narrow : (w n : ℕ) → is_width w ≡ true → nat_lt n (2 ^ w) ≡ true → nat_lt n (2 ^ 64) ≡ true
narrow w n width fits =
    let most : w ≤ 64 = leb-true w 64 (and_parts (nat_le 1 w) (nat_le w 64) width).1 in
    let below : n < 2 ^ w = ltb-true n (2 ^ w) fits in
    let limit : 2 ^ w ≤ 2 ^ 64 = two_to_le w 64 most in
    lt-ltb n (2 ^ 64) (omega arith)

-- and so is a width
width_number : (w : ℕ) → is_width w ≡ true → nat_lt w (2 ^ 64) ≡ true
width_number w width =
    let most : w ≤ 64 = leb-true w 64 (and_parts (nat_le 1 w) (nat_le w 64) width).1 in
    lt-ltb w (2 ^ 64) (omega arith)

-- an entry of a map that isn't zero
record IsEntry (k v : ℕ) (e : ℕ × ℕ) : Type 0 where
  key : nat_lt e.0 (2 ^ k) ≡ true
  some : not (e.1 == 0) ≡ true
  word : nat_lt e.1 (2 ^ v) ≡ true

entry_is : (k v : ℕ) (e : ℕ × ℕ) → fits_entry k v e ≡ true → IsEntry k v e
entry_is k v e fits =
    let p = and_parts (nat_lt e.0 (2 ^ k) && nat_le 1 e.1) (nat_lt e.1 (2 ^ v)) fits in
    let q = and_parts (nat_lt e.0 (2 ^ k)) (nat_le 1 e.1) p.0 in
    let least : 1 ≤ e.1 = leb-true 1 e.1 q.1 in
    record { key = q.0; some = ap not (ne_eqb e.1 0 (λ zero. omega arith)); word = p.1 }

module _ (k v : ℕ) where
  -- the entries of a map are those of a literal
  pairs_within : (es : List (ℕ × ℕ)) → list_all (fits_entry k v) es ≡ true → list_all (is_pair_within k v) es ≡ true
  pairs_within [] fits = refl
  pairs_within (e ∷ es) fits =
      let p = and_parts (fits_entry k v e) (list_all (fits_entry k v) es) fits in
      let entry = entry_is k v e p.0 in
      and_from (is_pair_within k v e) (list_all (is_pair_within k v) es) (and_from (nat_lt e.0 (2 ^ k)) (nat_lt e.1 (2 ^ v)) entry.key entry.word) (pairs_within es p.1)

  -- and none of them is zero
  none_zero : (es : List (ℕ × ℕ)) → list_all (fits_entry k v) es ≡ true → filter (λ e. not (e.1 == 0)) es ≡ es
  none_zero [] fits = refl
  none_zero (e ∷ es) fits =
      let p = and_parts (fits_entry k v e) (list_all (fits_entry k v) es) fits in
      ap (λ b. if b then e ∷ filter (λ f. not (f.1 == 0)) es else filter (λ f. not (f.1 == 0)) es) (entry_is k v e p.0).some ∙ ap (λ fs. e ∷ fs) (none_zero es p.1)

  module _ (keys : is_width k ≡ true) (words : is_width v ≡ true) where
    pair_printable : (e : ℕ × ℕ) → fits_entry k v e ≡ true → is_printable (written_pair e) ≡ true
    pair_printable e fits =
        let entry = entry_is k v e fits in
        printable-list (plain_number e.0 ∷ plain_number e.1 ∷ []) 0 0
        ∙ and_from _ _ (printable-number e.0 0 0 ∙ narrow k e.0 keys entry.key)
        (and_from _ _ (printable-number e.1 0 0 ∙ narrow v e.1 words entry.word) refl)

    pairs_printable : (es : List (ℕ × ℕ)) → list_all (fits_entry k v) es ≡ true → list_all (λ test. test) (map is_printable (map written_pair es)) ≡ true
    pairs_printable [] fits = refl
    pairs_printable (e ∷ es) fits =
        let p = and_parts (fits_entry k v e) (list_all (fits_entry k v) es) fits in
        and_from (is_printable (written_pair e)) (list_all (λ test. test) (map is_printable (map written_pair es))) (pair_printable e p.0) (pairs_printable es p.1)

    map_printable : (es : List (ℕ × ℕ)) → list_all (fits_entry k v) es ≡ true → is_printable (plain_list (map_forms k v es)) ≡ true
    map_printable es fits =
        printable-list (map_forms k v es) 0 0
        ∙ and_from _ _ (printable-word (codes "map") 0 0)
        (and_from _ _ (printable-number k 0 0 ∙ width_number k keys)
        (and_from _ _ (printable-number v 0 0 ∙ width_number v words) (pairs_printable es fits)))

-- `true` and `false` are words of the grammar
flag_printable : (b : Bool) → is_word (flag_word b) ≡ true
flag_printable true = refl
flag_printable false = refl

module _ (known : Vocabulary) where
  flag_reread : (b : Bool) → IsReread known (Plain BoolSort) (term.Plain (One (Flag b))) (raw_value (One (Flag b)))
  flag_reread b = record {
    printable = ap is_printable (fold-Flag Form written_node b) ∙ printable-word (flag_word b) 0 0 ∙ flag_printable b;
    lawful = fold-Flag Bool (is_lawful_node Ground) b;
    named = fold-Flag Bool (is_named_node known []) b;
    within = ap (is_within_place (Some (Plain BoolSort))) (fold-Flag Asked (asked_node known) b);
    reads = ap (argument ground_reading (Some (Plain BoolSort))) (fold-Flag (Said Tree) (node_says ground_reading known []) b);
  }

  bits_reread : (w n : ℕ) → (is_width w && nat_lt n (2 ^ w)) ≡ true → IsReread known (Plain (BitsSort w)) (term.Plain (One (Bits w n))) (raw_value (One (Bits w n)))
  bits_reread w n fits =
      let p = and_parts (is_width w) (nat_lt n (2 ^ w)) fits in
      record {
        printable = ap is_printable (fold-Number Form written_node n) ∙ printable-number n 0 0 ∙ narrow w n p.0 p.1;
        lawful = fold-Number Bool (is_lawful_node Ground) n;
        named = fold-Number Bool (is_named_node known []) n;
        within = ap (is_within_place (Some (Plain (BitsSort w)))) (fold-Number Asked (asked_node known) n) ∙ p.1;
        reads =
            ap (argument ground_reading (Some (Plain (BitsSort w)))) (fold-Number (Said Tree) (node_says ground_reading known []) n)
            ∙ ap (λ b. option_and_then (scalar_literal ground_reading) (if b then Some (Bits w n) else None)) fits;
      }

  map_reread : (m : Mapping) → is_mapping m ≡ true → IsReread known (Plain (MapSort m.key_width m.word_width)) (term.Plain (Map m)) (raw_value (Map m))
  map_reread m lawful =
      let k = m.key_width in
      let v = m.word_width in
      let es = m.entries in
      let place = Plain (MapSort k v) in
      let p = and_parts (is_width k && is_width v && rises_from 0 es) (list_all (fits_entry k v) es) lawful in
      let q = and_parts (is_width k && is_width v) (rises_from 0 es) p.0 in
      let widths = and_parts (is_width k) (is_width v) q.0 in
      let entries : are_entries k v es ≡ true = and_from (is_width k && is_width v) _ q.0 (and_from (rises_from 0 es) _ q.1 (pairs_within k v es p.1)) in
      let is : mapping_of k v es ≡ Some m =
      ap (λ b. if b then Some (record { key_width = k; word_width = v; entries = filter (λ e. not (e.1 == 0)) es }) else None) entries
      ∙ ap (λ fs. Some (record { key_width = k; word_width = v; entries = fs })) (none_zero k v es p.1) in
      record {
        printable = ap is_printable (fold-Map Form written_node k v es) ∙ map_printable k v widths.0 widths.1 es p.1;
        lawful = fold-Map Bool (is_lawful_node Ground) k v es;
        named = fold-Map Bool (is_named_node known []) k v es;
        within = ap (is_within_place (Some place)) (fold-Map Asked (asked_node known) k v es) ∙ entries;
        reads =
            ap (argument ground_reading (Some place)) (fold-Map (Said Tree) (node_says ground_reading known []) k v es)
            ∙ ap (λ o. argument ground_reading (Some place) (said (option_and_then (map_literal ground_reading) o))) is;
      }

  -- a lawful value in a place of its sort
  pub value_reread : (x : Value) → is_value x ≡ true → IsReread known (Plain (value_sort x)) (term.Plain x) (raw_value x)
  value_reread (One (Flag b)) lawful = flag_reread b
  value_reread (One (Bits w n)) lawful = bits_reread w n lawful
  value_reread (Map m) lawful = map_reread m lawful
