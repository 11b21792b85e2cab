-- What is written of a tree of a sort is read as this tree.
use Rattle.std.proofs.Common.{◌≡◌, ℕ, Bool, true, false, not, IsTrue, List, [], ◌∷◌, map, slice_get, Option, Some, None, is_some, All, refl, sym, ap, ◌∙◌, subst}
use Rattle.std.specs.Prelude.{option_map, if◌then◌else◌}
use Rattle.std.specs.List.{list_all}
use Rattle.std.proofs.lemmas.Bool.{and_from}
use Rattle.data_value.specs.declared.Value.{Value}
use Rattle.data_value.specs.Values.{is_value, value_sort}
use Rattle.sexp_text.specs.declared.form.Form.{Form}
use Rattle.sexp_text.specs.Printed.{is_word, is_printable}
use Rattle.sexp_text.proofs.Equations.{printable-word, printable-list}
use Rattle.rule_text.specs.Lawful.{is_lawful_node, is_lawful_tree}
use Rattle.rule_text.specs.Written.{written_node, written_tree}
use Rattle.rule_text.specs.declared.tree.Place.TheVariants.{Ground}
use Rattle.rule_text.specs.declared.item.RawTree.{RawTree}
use Rattle.rule_text.specs.declared.item.RawTree.TheVariants as raw
use Rattle.rule_text.proofs.Trees.{fold-Con, con_forms}
use Rattle.sort_term.specs.declared.ids.ConId.{ConId}
use Rattle.sort_term.specs.declared.semantics.Con.{Con}
use Rattle.sort_term.specs.declared.term.Sort.{Sort}
use Rattle.sort_term.specs.declared.term.Sort.TheVariants.{Own, Plain}
use Rattle.sort_term.specs.declared.term.Term.TheVariants as term
use Rattle.sort_term.specs.Names.{is_reserved_word}
use Rattle.sort_term.specs.Rules.{IsSemantics}
use Rattle.sort_term.specs.Sorted.{in_front, tree_sort}
use Rattle.sort_term.specs.System.{System}
use Rattle.sort_term.specs.Tree.{Tree, Trees}
use Rattle.sort_term.proofs.Each.{Each}
use Rattle.sort_term.proofs.Equations.{tree_sort-Plain, tree_sort-Con}
use Rattle.sort_term.proofs.Induction.{term_ind}
use Rattle.sort_term.proofs.Parts.{con_parts}
use Rattle.sort_term.proofs.Standing.{get-below, get-is}
use Rattle.name_resolution.specs.Known.{Vocabulary, vocabulary_in, con_of}
use Rattle.name_resolution.specs.Named.{is_named_node, is_named_tree}
use Rattle.name_resolution.specs.Reads.{Said, said, argument, arguments, applied_con, ground_reading, node_says, tree_says}
use Rattle.name_resolution.specs.Within.{Asked, is_within_place, are_within_places, argument_sorts, asked_node, asked}
use Rattle.report_text.specs.Again.{raw_value, raw_state}
use Rattle.report_text.specs.States.{name_text, con_text}
use Rattle.report_text.proofs.ConPlaces.{con_is}
use Rattle.report_text.proofs.RawStates.{raw-Plain, raw-Con}
use Rattle.report_text.proofs.RawValues.{IsReread, value_reread}

-- what each of a list has, the one at a place has
each_at : {X : Type 0} (P : X → Type 0) (xs : List X) (i : ℕ) (x : X) → All P xs → slice_get xs i ≡ Some x → P x
each_at P xs i x all there = subst P (get-is xs i x x there) (all i x (get-below xs i x there))

lawful_leaf : (b : Bool) (c a : Sort) → (if b then Some c else None) ≡ Some a → (b ≡ true) × (c ≡ a)
lawful_leaf true c a h = (refl, cc)
lawful_leaf false c a h = absurd cc

-- what is written of trees, in places of these sorts, has all that is to be shown of each
record AreReread (known : Vocabulary) (args : List Sort) (ts : Trees) (raws : List RawTree) : Type 0 where
  printable : list_all (λ test. test) (map is_printable (map written_tree raws)) ≡ true
  lawful : list_all (λ arg. arg) (map (is_lawful_tree Ground) raws) ≡ true
  named : list_all (λ arg. arg) (map (is_named_tree known []) raws) ≡ true
  within : are_within_places args (map (asked known) raws) ≡ true
  reads : arguments ground_reading args (map (tree_says ground_reading known []) raws) ≡ Some ts

one_more : (known : Vocabulary) (a : Sort) (args : List Sort) (t : Tree) (ts : Trees) (raw : RawTree) (raws : List RawTree) → IsReread known a t raw → AreReread known args ts raws → AreReread known (a ∷ args) (t ∷ ts) (raw ∷ raws)
one_more known a args t ts raw raws here rest = record {
  printable = and_from (is_printable (written_tree raw)) _ here.printable rest.printable;
  lawful = and_from (is_lawful_tree Ground raw) _ here.lawful rest.lawful;
  named = and_from (is_named_tree known [] raw) _ here.named rest.named;
  within = and_from (is_within_place (Some a) (asked known raw)) _ here.within rest.within;
  reads = ap (λ o. in_front o (arguments ground_reading args (map (tree_says ground_reading known []) raws))) here.reads ∙ ap (in_front (Some t)) rest.reads;
}

-- what is written of a constructor with arguments that are read
con_reread : (known : Vocabulary) (c : ConId) (con : Con) (ts : Trees) (raws : List RawTree) → is_word con.name ≡ true → is_reserved_word con.name ≡ false → con_of known con.name ≡ Some (c, con) → AreReread known con.args ts raws → IsReread known (Own con.sort) (term.Con c ts) (raw.Con con.name raws)
con_reread known c con ts raws word free found args = record {
  printable =
      ap is_printable (fold-Con Form written_node con.name raws)
      ∙ printable-list (con_forms con.name raws) 0 0
      ∙ and_from _ _ (printable-word con.name 0 0 ∙ word) args.printable;
  lawful = fold-Con Bool (is_lawful_node Ground) con.name raws ∙ and_from _ _ (ap not free) args.lawful;
  named = fold-Con Bool (is_named_node known []) con.name raws ∙ and_from _ _ (ap is_some found) args.named;
  within =
      ap (is_within_place (Some (Own con.sort))) (fold-Con Asked (asked_node known) con.name raws)
      ∙ ap (λ o. are_within_places (argument_sorts o) (map (asked known) raws)) found
      ∙ args.within;
  reads =
      ap (argument ground_reading (Some (Own con.sort))) (fold-Con (Said Tree) (node_says ground_reading known []) con.name raws)
      ∙ ap (λ o. argument ground_reading (Some (Own con.sort)) (said (applied_con ground_reading o (map (tree_says ground_reading known []) raws)))) found
      ∙ ap (λ o. argument ground_reading (Some (Own con.sort)) (said (option_map (term.Con c) o))) args.reads;
}

module _ (s : System) (is_semantics : IsSemantics s) (words : All (λ con. IsTrue (is_word con.name)) s.cons) where
  abbrev known : Vocabulary
  known = vocabulary_in s

  -- a tree of a sort is read again
  abbrev Rereads : Tree → Type 0
  Rereads t = (a : Sort) → tree_sort s.cons t ≡ Some a → IsReread known a t (raw_state s.cons t)

  plain_rereads : (x : Value) → Rereads (term.Plain x)
  plain_rereads x a sorted =
      let leaf = lawful_leaf (is_value x) (Plain (value_sort x)) a (sym (tree_sort-Plain s.cons x) ∙ sorted) in
      subst (IsReread known a (term.Plain x)) (sym (raw-Plain s.cons x)) (subst (λ b. IsReread known b (term.Plain x) (raw_value x)) leaf.1 (value_reread known x leaf.0))

  all_reread : (args : List Sort) (ts : Trees) → Each Rereads ts → map (tree_sort s.cons) ts ≡ map Some args → AreReread known args ts (map (raw_state s.cons) ts)
  all_reread [] [] each sorted = record { printable = refl; lawful = refl; named = refl; within = refl; reads = refl }
  all_reread [] (t ∷ ts) each sorted = absurd cc
  all_reread (a ∷ args) [] each sorted = absurd cc
  all_reread (a ∷ args) (t ∷ ts) each sorted =
      let first : tree_sort s.cons t ≡ Some a = cc in
      let rest : map (tree_sort s.cons) ts ≡ map Some args = cc in
      one_more known a args t ts (raw_state s.cons t) (map (raw_state s.cons) ts) (each.0 a first) (all_reread args ts each.1 rest)

  con_rereads : (c : ConId) (ts : Trees) → Each Rereads ts → Rereads (term.Con c ts)
  con_rereads c ts each a sorted =
      let parts = con_parts (slice_get s.cons c.0) (map (tree_sort s.cons) ts) a (sym (tree_sort-Con s.cons c ts) ∙ sorted) in
      let con = parts.con in
      let name : con_text s.cons c ≡ con.name = ap (λ (o : Option Con). name_text (option_map (λ k. k.name) o)) parts.is_con in
      let word = each_at (λ (k : Con). IsTrue (is_word k.name)) s.cons c.0 con words parts.is_con in
      let free = (is_semantics.cons_pass.declared.each c.0 con parts.is_con).free in
      let found = con_is s c con is_semantics.cons_pass.distinct parts.is_con in
      let again = con_reread known c con ts (map (raw_state s.cons) ts) word free found (all_reread con.args ts each parts.sorts) in
      subst (IsReread known a (term.Con c ts)) (sym (raw-Con s.cons c ts ∙ ap (λ n. raw.Con n (map (raw_state s.cons) ts)) name))
      (subst (λ b. IsReread known b (term.Con c ts) (raw.Con con.name (map (raw_state s.cons) ts))) parts.makes again)

  pub rereads : (t : Tree) → Rereads t
  rereads = term_ind Value Rereads plain_rereads con_rereads
