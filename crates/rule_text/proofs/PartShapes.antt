-- Which sorts, conditions and demands a form is, as their readers take it apart.
use Rattle.std.proofs.Common.{◌≡◌, ◌≢◌, ℕ, List, [], ◌∷◌, codes, refl, sym, ◌∙◌}
use Rattle.sexp_text.specs.declared.form.Form.{Form}
use Rattle.rule_text.specs.Plain.{plain_word, plain_number, plain_list}
use Rattle.rule_text.specs.Written.{written_sort, written_tree, written_row}
use Rattle.rule_text.specs.Lawful.{IsPattern, IsExpression}
use Rattle.rule_text.specs.Writes.{WritesWhen, WritesRow, WritesTree, WritesDemand}
use Rattle.rule_text.specs.declared.tree.Place.TheVariants.{Pattern, Expression}
use Rattle.rule_text.specs.declared.item.RawSort.{RawSort}
use Rattle.rule_text.specs.declared.item.RawSort.TheVariants as sort
use Rattle.rule_text.specs.declared.item.RawTree.{RawTree}
use Rattle.rule_text.specs.declared.item.RawDemand.{RawDemand}
use Rattle.rule_text.specs.declared.item.RawDemand.TheVariants as demand
use Rattle.rule_text.proofs.Plain.{same_word, same_list, word_no_list}
use Rattle.rule_text.proofs.OperatorTable.{other_word}
use Rattle.rule_text.proofs.UniqueTrees.{no_row}

-- `bits` goes before one number alone
pub no_bits_sort : (form : Form) (parts : List Form) (s : RawSort) → form ≡ plain_list (plain_word (codes "bits") ∷ parts) → ((n : ℕ) → parts ≢ plain_number n ∷ []) → form ≡ written_sort s → ⊥
no_bits_sort form parts sort.Bool is others e = word_no_list _ _ (sym e ∙ is)
no_bits_sort form parts (sort.Bits width) is others e = let whole : plain_word (codes "bits") ∷ parts ≡ plain_word (codes "bits") ∷ plain_number width ∷ [] = same_list _ _ (sym is ∙ e) in others width cc
no_bits_sort form parts (sort.Map key word) is others e = let whole : plain_word (codes "bits") ∷ parts ≡ plain_word (codes "map") ∷ plain_number key ∷ plain_number word ∷ [] = same_list _ _ (sym is ∙ e) in other_word (codes "bits") (codes "map") refl (same_word _ _ cc)
no_bits_sort form parts (sort.Named name) is others e = word_no_list _ _ (sym e ∙ is)

-- and `map` before two
pub no_map_sort : (form : Form) (parts : List Form) (s : RawSort) → form ≡ plain_list (plain_word (codes "map") ∷ parts) → ((m n : ℕ) → parts ≢ plain_number m ∷ plain_number n ∷ []) → form ≡ written_sort s → ⊥
no_map_sort form parts sort.Bool is others e = word_no_list _ _ (sym e ∙ is)
no_map_sort form parts (sort.Bits width) is others e = let whole : plain_word (codes "map") ∷ parts ≡ plain_word (codes "bits") ∷ plain_number width ∷ [] = same_list _ _ (sym is ∙ e) in other_word (codes "map") (codes "bits") refl (same_word _ _ cc)
no_map_sort form parts (sort.Map key word) is others e = let whole : plain_word (codes "map") ∷ parts ≡ plain_word (codes "map") ∷ plain_number key ∷ plain_number word ∷ [] = same_list _ _ (sym is ∙ e) in others key word cc
no_map_sort form parts (sort.Named name) is others e = word_no_list _ _ (sym e ∙ is)

-- any other sort is a word
pub no_sort : (form : Form) (s : RawSort) → ((rest : List Form) → form ≢ plain_list (plain_word (codes "bits") ∷ rest)) → ((rest : List Form) → form ≢ plain_list (plain_word (codes "map") ∷ rest)) → ((name : List ℕ) → form ≢ plain_word name) → form ≡ written_sort s → ⊥
no_sort form sort.Bool bits maps words e = words _ e
no_sort form (sort.Bits width) bits maps words e = bits _ e
no_sort form (sort.Map key word) bits maps words e = maps _ e
no_sort form (sort.Named name) bits maps words e = words name e

-- what stands behind `when`
pub when_parts : (form : Form) (parts : List Form) (condition : RawTree) → form ≡ plain_list (plain_word (codes "when") ∷ parts) → WritesWhen form condition → parts ≡ written_tree condition ∷ []
when_parts form parts condition is w = let whole : plain_word (codes "when") ∷ parts ≡ plain_word (codes "when") ∷ written_tree condition ∷ [] = same_list _ _ (sym is ∙ w.spelled) in cc

-- what stands behind `let`: a pattern, and a row or an expression
pub data LetParts (parts : List Form) : Type 0 where
  of_expression : (pattern source : RawTree) → parts ≡ written_tree pattern ∷ written_tree source ∷ [] → IsPattern pattern → IsExpression source → LetParts parts
  of_row : (pattern : RawTree) (table : List ℕ) (key : RawTree) → parts ≡ written_tree pattern ∷ written_row table key ∷ [] → IsPattern pattern → IsExpression key → LetParts parts

pub let_parts : (parts : List Form) (d : RawDemand) → WritesDemand (plain_list (plain_word (codes "let") ∷ parts)) d → LetParts parts
let_parts parts (demand.Let pattern source) w =
    let whole : plain_word (codes "let") ∷ parts ≡ plain_word (codes "let") ∷ written_tree pattern ∷ written_tree source ∷ [] = same_list _ _ w.spelled in
    of_expression pattern source (cc) w.lawful.0 w.lawful.1
let_parts parts (demand.LetRow pattern table key) w =
    let whole : plain_word (codes "let") ∷ parts ≡ plain_word (codes "let") ∷ written_tree pattern ∷ written_row table key ∷ [] = same_list _ _ w.spelled in
    of_row pattern table key (cc) w.lawful.0 w.lawful.1
let_parts parts (demand.When condition) w =
    let whole : plain_word (codes "let") ∷ parts ≡ plain_word (codes "when") ∷ written_tree condition ∷ [] = same_list _ _ w.spelled in absurd (other_word (codes "let") (codes "when") refl (same_word _ _ cc))

-- there are two parts
pub two_parts : (parts : List Form) → LetParts parts → (first : Form) × (second : Form) × (parts ≡ first ∷ second ∷ [])
two_parts parts (of_expression pattern source e p q) = (written_tree pattern, written_tree source, e)
two_parts parts (of_row pattern table key e p q) = (written_tree pattern, written_row table key, e)

module _ (first second : Form) where
  -- the first is a pattern
  pub no_pattern : ((pattern : RawTree) → ¬ WritesTree Pattern first pattern) → LetParts (first ∷ second ∷ []) → ⊥
  no_pattern none (of_expression pattern source e p q) = none pattern record { spelled = cc; lawful = p }
  no_pattern none (of_row pattern table key e p q) = none pattern record { spelled = cc; lawful = p }

  -- a list that begins with `row` is a row
  pub no_row_key : (rest : List Form) → second ≡ plain_list (plain_word (codes "row") ∷ rest) → ((row : List ℕ × RawTree) → ¬ WritesRow rest row) → LetParts (first ∷ second ∷ []) → ⊥
  no_row_key rest is none (of_expression pattern source e p q) = let same : second ≡ written_tree source = cc in no_row Expression source rest (sym same ∙ is) q
  no_row_key rest is none (of_row pattern table key e p q) =
      let same : second ≡ written_row table key = cc in
      let whole : plain_word (codes "row") ∷ rest ≡ plain_word (codes "row") ∷ plain_word table ∷ written_tree key ∷ [] = same_list _ _ (sym is ∙ same) in
      none (table, key) record { spelled = cc; lawful = q }

  -- any other form is an expression
  pub no_source : ((rest : List Form) → second ≢ plain_list (plain_word (codes "row") ∷ rest)) → ((source : RawTree) → ¬ WritesTree Expression second source) → LetParts (first ∷ second ∷ []) → ⊥
  no_source no_row none (of_expression pattern source e p q) = none source record { spelled = cc; lawful = q }
  no_source no_row none (of_row pattern table key e p q) = no_row (plain_word table ∷ written_tree key ∷ []) cc
