-- The text of a state is that of the form which is written of it, and that form has no spans.
use Rattle.std.proofs.Common.{◌≡◌, ℕ, List, [], ◌∷◌, map, codes, refl, sym, ap, ◌∙◌}
use Rattle.std.specs.Fmt.{decimal}
use Rattle.data_value.specs.declared.Scalar.TheVariants.{Flag, Bits}
use Rattle.data_value.specs.declared.Value.{Value}
use Rattle.data_value.specs.declared.Value.TheVariants.{One, Map}
use Rattle.sexp_text.specs.declared.form.Form.{Form}
use Rattle.sexp_text.specs.Print.{text_of}
use Rattle.sexp_text.specs.Printed.{without_spans}
use Rattle.sexp_text.proofs.Equations.{text-word, text-number, text-list, plain-word, plain-number, plain-list}
use Rattle.rule_text.specs.Plain.{plain_word, plain_number, plain_list}
use Rattle.rule_text.specs.Written.{flag_word, written_pair, written_node, written_tree}
use Rattle.rule_text.specs.declared.item.RawTree.{RawTree}
use Rattle.rule_text.proofs.Trees.{fold-Flag, fold-Number, fold-Map, fold-Con, map_forms, con_forms}
use Rattle.sort_term.specs.declared.ids.ConId.{ConId}
use Rattle.sort_term.specs.declared.semantics.Con.{Con}
use Rattle.sort_term.specs.declared.term.Term.TheFolds.{fold-roll-Term}
use Rattle.sort_term.specs.declared.term.Term.TheOpen.{Term-F}
use Rattle.sort_term.specs.declared.term.Term.TheVariants as term
use Rattle.sort_term.specs.Tree.{Tree, Trees}
use Rattle.sort_term.proofs.Each.{Each}
use Rattle.sort_term.proofs.Induction.{term_ind}
use Rattle.rule_text.specs.declared.item.RawTree.TheVariants as raw
use Rattle.report_text.specs.Again.{raw_value, raw_node, raw_state}
use Rattle.report_text.specs.States.{con_text, node_text, tree_text}
use Rattle.report_text.specs.Values.{listed, entry_text, value_text}

-- what the folds over trees give for a tree of each kind
module _ (cons : List Con) where
  pub raw-Plain : (x : Value) → raw_state cons (term.Plain x) ≡ raw_value x
  raw-Plain x = ap (raw_state cons) (sym (term.rolls-Plain x)) ∙ fold-roll-Term Value RawTree (raw_node cons) (Term-F.Plain x)

  pub raw-Con : (c : ConId) (ts : Trees) → raw_state cons (term.Con c ts) ≡ raw.Con (con_text cons c) (map (raw_state cons) ts)
  raw-Con c ts = ap (raw_state cons) (sym (term.rolls-Con c ts)) ∙ fold-roll-Term Value RawTree (raw_node cons) (Term-F.Con c ts)

  text-Plain : (x : Value) → tree_text cons (term.Plain x) ≡ value_text x
  text-Plain x = ap (tree_text cons) (sym (term.rolls-Plain x)) ∙ fold-roll-Term Value (List ℕ) (node_text cons) (Term-F.Plain x)

  text-Con : (c : ConId) (ts : Trees) → tree_text cons (term.Con c ts) ≡ listed (con_text cons c ∷ map (tree_text cons) ts)
  text-Con c ts = ap (tree_text cons) (sym (term.rolls-Con c ts)) ∙ fold-roll-Term Value (List ℕ) (node_text cons) (Term-F.Con c ts)

-- the text of an entry of a map
pair_text : (e : ℕ × ℕ) → text_of (written_pair e) ≡ entry_text e
pair_text e =
    let key : text_of (plain_number e.0) ≡ decimal e.0 = text-number e.0 0 0 in
    let word : text_of (plain_number e.1) ≡ decimal e.1 = text-number e.1 0 0 in
    text-list (plain_number e.0 ∷ plain_number e.1 ∷ []) 0 0 ∙ ap listed (ap (λ k. k ∷ text_of (plain_number e.1) ∷ []) key ∙ ap (λ w. decimal e.0 ∷ w ∷ []) word)

pair_texts : (es : List (ℕ × ℕ)) → map text_of (map written_pair es) ≡ map entry_text es
pair_texts [] = refl
pair_texts (e ∷ es) = ap (λ k. k ∷ map text_of (map written_pair es)) (pair_text e) ∙ ap (λ ks. entry_text e ∷ ks) (pair_texts es)

-- the text of a map
map_texts : (k w : ℕ) (es : List (ℕ × ℕ)) → map text_of (map_forms k w es) ≡ codes "map" ∷ decimal k ∷ decimal w ∷ map entry_text es
map_texts k w es =
    ap (λ t. t ∷ text_of (plain_number k) ∷ text_of (plain_number w) ∷ map text_of (map written_pair es)) (text-word (codes "map") 0 0)
    ∙ ap (λ t. codes "map" ∷ t ∷ text_of (plain_number w) ∷ map text_of (map written_pair es)) (text-number k 0 0)
    ∙ ap (λ t. codes "map" ∷ decimal k ∷ t ∷ map text_of (map written_pair es)) (text-number w 0 0)
    ∙ ap (λ ts. codes "map" ∷ decimal k ∷ decimal w ∷ ts) (pair_texts es)

-- the text of a value
value_written : (x : Value) → text_of (written_tree (raw_value x)) ≡ value_text x
value_written (One (Flag b)) = ap text_of (fold-Flag Form written_node b) ∙ text-word (flag_word b) 0 0
value_written (One (Bits w n)) = ap text_of (fold-Number Form written_node n) ∙ text-number n 0 0
value_written (Map m) =
    ap text_of (fold-Map Form written_node m.key_width m.word_width m.entries)
    ∙ text-list (map_forms m.key_width m.word_width m.entries) 0 0
    ∙ ap listed (map_texts m.key_width m.word_width m.entries)

-- the entries of a map have no spans
pairs_spanless : (es : List (ℕ × ℕ)) → map without_spans (map written_pair es) ≡ map written_pair es
pairs_spanless [] = refl
pairs_spanless (e ∷ es) =
    let key : without_spans (plain_number e.0) ≡ plain_number e.0 = plain-number e.0 0 0 in
    let word : without_spans (plain_number e.1) ≡ plain_number e.1 = plain-number e.1 0 0 in
    let parts = ap (λ k. k ∷ without_spans (plain_number e.1) ∷ []) key ∙ ap (λ w. plain_number e.0 ∷ w ∷ []) word in
    let first : without_spans (written_pair e) ≡ written_pair e = plain-list (plain_number e.0 ∷ plain_number e.1 ∷ []) 0 0 ∙ ap plain_list parts in
    ap (λ f. f ∷ map without_spans (map written_pair es)) first ∙ ap (λ fs. written_pair e ∷ fs) (pairs_spanless es)

map_spanless : (k w : ℕ) (es : List (ℕ × ℕ)) → map without_spans (map_forms k w es) ≡ map_forms k w es
map_spanless k w es =
    ap (λ f. f ∷ without_spans (plain_number k) ∷ without_spans (plain_number w) ∷ map without_spans (map written_pair es)) (plain-word (codes "map") 0 0)
    ∙ ap (λ f. plain_word (codes "map") ∷ f ∷ without_spans (plain_number w) ∷ map without_spans (map written_pair es)) (plain-number k 0 0)
    ∙ ap (λ f. plain_word (codes "map") ∷ plain_number k ∷ f ∷ map without_spans (map written_pair es)) (plain-number w 0 0)
    ∙ ap (λ fs. plain_word (codes "map") ∷ plain_number k ∷ plain_number w ∷ fs) (pairs_spanless es)

-- a form has no spans
abbrev IsSpanless : Form → Type 0
IsSpanless form = without_spans form ≡ form

-- so has one that is the same
spanless_by : (f g : Form) → f ≡ g → IsSpanless g → IsSpanless f
spanless_by f g e h = ap without_spans e ∙ h ∙ sym e

value_spanless : (x : Value) → IsSpanless (written_tree (raw_value x))
value_spanless (One (Flag b)) = spanless_by _ _ (fold-Flag Form written_node b) (plain-word (flag_word b) 0 0)
value_spanless (One (Bits w n)) = spanless_by _ _ (fold-Number Form written_node n) (plain-number n 0 0)
value_spanless (Map m) =
    spanless_by _ _ (fold-Map Form written_node m.key_width m.word_width m.entries)
    (plain-list (map_forms m.key_width m.word_width m.entries) 0 0 ∙ ap plain_list (map_spanless m.key_width m.word_width m.entries))

module _ (cons : List Con) where
  -- the form that is written of a tree
  abbrev pub form_of : Tree → Form
  form_of t = written_tree (raw_state cons t)

  -- a tree is written as its text says
  abbrev IsSpelled : Tree → Type 0
  IsSpelled t = text_of (form_of t) ≡ tree_text cons t

  spelled_all : (ts : Trees) → Each IsSpelled ts → map text_of (map written_tree (map (raw_state cons) ts)) ≡ map (tree_text cons) ts
  spelled_all [] e = refl
  spelled_all (t ∷ ts) e = ap (λ u. u ∷ map text_of (map written_tree (map (raw_state cons) ts))) e.0 ∙ ap (λ us. tree_text cons t ∷ us) (spelled_all ts e.1)

  con_spelled : (c : ConId) (ts : Trees) → Each IsSpelled ts → IsSpelled (term.Con c ts)
  con_spelled c ts e =
      let name = con_text cons c in
      let raws = map (raw_state cons) ts in
      ap (λ r. text_of (written_tree r)) (raw-Con cons c ts)
      ∙ ap text_of (fold-Con Form written_node name raws)
      ∙ text-list (con_forms name raws) 0 0
      ∙ ap (λ t. listed (t ∷ map text_of (map written_tree raws))) (text-word name 0 0)
      ∙ ap (λ us. listed (name ∷ us)) (spelled_all ts e)
      ∙ sym (text-Con cons c ts)

  pub spelled : (t : Tree) → IsSpelled t
  spelled = term_ind Value IsSpelled (λ x. ap (λ r. text_of (written_tree r)) (raw-Plain cons x) ∙ value_written x ∙ sym (text-Plain cons x)) con_spelled

  abbrev HasNoSpans : Tree → Type 0
  HasNoSpans t = IsSpanless (form_of t)

  spanless_all : (ts : Trees) → Each HasNoSpans ts → map without_spans (map written_tree (map (raw_state cons) ts)) ≡ map written_tree (map (raw_state cons) ts)
  spanless_all [] e = refl
  spanless_all (t ∷ ts) e = ap (λ f. f ∷ map without_spans (map written_tree (map (raw_state cons) ts))) e.0 ∙ ap (λ fs. form_of t ∷ fs) (spanless_all ts e.1)

  con_spanless : (c : ConId) (ts : Trees) → Each HasNoSpans ts → HasNoSpans (term.Con c ts)
  con_spanless c ts e =
      let name = con_text cons c in
      let raws = map (raw_state cons) ts in
      spanless_by _ _ (ap written_tree (raw-Con cons c ts) ∙ fold-Con Form written_node name raws)
      (plain-list (con_forms name raws) 0 0 ∙ ap (λ f. plain_list (f ∷ map without_spans (map written_tree raws))) (plain-word name 0 0) ∙ ap (λ fs. plain_list (plain_word name ∷ fs)) (spanless_all ts e))

  pub spanless : (t : Tree) → HasNoSpans t
  spanless = term_ind Value HasNoSpans (λ x. spanless_by _ _ (ap written_tree (raw-Plain cons x)) (value_spanless x)) con_spanless
