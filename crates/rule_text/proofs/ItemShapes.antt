-- Which items a form is, as the reader of items takes it apart.
use Rattle.std.proofs.Common.{◌≡◌, ◌≢◌, ℕ, List, [], ◌∷◌, ◌++◌, map, codes, All, Bool, refl, sym, ◌∙◌, ap, subst, ◌-◌, ◌≤◌, length, take, drop, get_or, ◌<◌}
use Rattle.std.proofs.lemmas.List.{map-append}
use Rattle.sexp_text.specs.Printed.{without_spans}
use Rattle.sexp_text.specs.declared.form.Form.{Form}
use Rattle.rule_text.specs.Plain.{plain_word, plain_number, plain_list}
use Rattle.rule_text.specs.Written.{written_sort, written_vars, written_tree, written_when, written_demand, side_word, front_word, item_parts, written_item}
use Rattle.rule_text.specs.Lawful.{IsSort, AreVariables, IsPattern, IsExpression, IsGround, IsDemand, IsItemOf}
use Rattle.rule_text.specs.Writes.{WritesTree, WritesOpening, WritesGuarded, WritesRuleBody, WritesPointBody, WritesOutcome, WritesParts, WritesItem}
use Rattle.rule_text.specs.declared.tree.Place.TheVariants.{Pattern, Ground}
use Rattle.rule_text.specs.declared.item.RawSort.{RawSort}
use Rattle.rule_text.specs.declared.item.RawVar.{RawVar}
use Rattle.rule_text.specs.declared.item.RawTree.{RawTree}
use Rattle.rule_text.specs.declared.item.RawDemand.{RawDemand}
use Rattle.rule_text.specs.declared.item.FileKind.{FileKind}
use Rattle.rule_text.specs.declared.item.FileKind.TheVariants as file
use Rattle.rule_text.specs.declared.item.Item.{Item}
use Rattle.rule_text.specs.declared.item.Item.TheVariants.{Sort, Con, Table, Config, Rule, Row, Cut, Point, Start}
use Rattle.rule_text.proofs.OperatorTable.{other_word}
use Rattle.rule_text.proofs.Slices.{list_3, list_3_up, list_4_up, list_last, same_ends}
use Rattle.rule_text.proofs.Plain.{same_word, same_list}

-- an item of any text but a start text is a word with its parts
pub listed : (kind : FileKind) (i : Item) → kind ≢ file.Start → IsItemOf kind i → written_item i ≡ plain_list (plain_word (front_word i) ∷ item_parts i)
listed kind (Sort name) k p = refl
listed kind (Con name args sort) k p = refl
listed kind (Table name key sort) k p = refl
listed kind (Config name) k p = refl
listed kind (Rule name vars head demands outcome) k p = refl
listed kind (Row table key term) k p = refl
listed kind (Cut left name vars pattern whens) k p = refl
listed kind (Point name vars left right whens) k p = refl
listed file.Semantics (Start tree) k p = absurd p
listed file.Program (Start tree) k p = absurd p
listed file.Points (Start tree) k p = absurd p
listed file.Start (Start tree) k p = absurd (k refl)

-- a start text's item is a ground term
pub start_parts : (form : Form) (i : Item) → WritesItem file.Start form i → (tree : RawTree) × WritesTree Ground form tree × (i ≡ Start tree)
start_parts form (Start tree) w = (tree, record { spelled = w.spelled; lawful = w.lawful }, refl)
start_parts form i w = absurd w.lawful

module _ (kind : FileKind) (form : Form) (rest : List Form) (word : List ℕ) (i : Item) (no_start : kind ≢ file.Start) (list : form ≡ plain_list (plain_word word ∷ rest)) where
  -- the word in front of its parts makes the item
  pub item_of : WritesParts kind word rest i → WritesItem kind form i
  item_of w = record {
    spelled = list ∙ ap plain_list (ap (λ n. plain_word n ∷ rest) (sym w.word) ∙ ap (λ fs. plain_word (front_word i) ∷ fs) w.spelled) ∙ sym (listed kind i no_start w.lawful);
    lawful = w.lawful;
  }

  -- the item has this word in front of its parts
  pub parts_of : WritesItem kind form i → WritesParts kind word rest i
  parts_of w =
      let same : plain_word word ∷ rest ≡ plain_word (front_word i) ∷ item_parts i = same_list _ _ (sym list ∙ w.spelled ∙ listed kind i no_start w.lawful) in
      record { word = same_word _ _ cc; spelled = cc; lawful = w.lawful }

-- the words of a semantics text's items
pub no_other_semantics : (form : Form) (i : Item) → ((rest : List Form) → form ≢ plain_list (plain_word (codes "sort") ∷ rest)) → ((rest : List Form) → form ≢ plain_list (plain_word (codes "con") ∷ rest)) → ((rest : List Form) → form ≢ plain_list (plain_word (codes "table") ∷ rest)) → ((rest : List Form) → form ≢ plain_list (plain_word (codes "config") ∷ rest)) → ((rest : List Form) → form ≢ plain_list (plain_word (codes "rule") ∷ rest)) → WritesItem file.Semantics form i → ⊥
no_other_semantics form (Sort name) a b c d e w = a _ w.spelled
no_other_semantics form (Con name args sort) a b c d e w = b _ w.spelled
no_other_semantics form (Table name key sort) a b c d e w = c _ w.spelled
no_other_semantics form (Config name) a b c d e w = d _ w.spelled
no_other_semantics form (Rule name vars head demands outcome) a b c d e w = e _ w.spelled
no_other_semantics form i a b c d e w = w.lawful

-- the word of a program text's items
pub no_other_program : (form : Form) (i : Item) → ((rest : List Form) → form ≢ plain_list (plain_word (codes "row") ∷ rest)) → WritesItem file.Program form i → ⊥
no_other_program form (Row table key term) a w = a _ w.spelled
no_other_program form i a w = w.lawful

-- the words of a points text's items
pub no_other_points : (form : Form) (i : Item) → ((rest : List Form) → form ≢ plain_list (plain_word (codes "cut") ∷ rest)) → ((rest : List Form) → form ≢ plain_list (plain_word (codes "point") ∷ rest)) → WritesItem file.Points form i → ⊥
no_other_points form (Cut left name vars pattern whens) a b w = a _ w.spelled
no_other_points form (Point name vars left right whens) a b w = b _ w.spelled
no_other_points form i a b w = w.lawful

-- what stands behind `sort`
pub sort_parts : (parts : List Form) (i : Item) → WritesParts file.Semantics (codes "sort") parts i → (name : List ℕ) × (parts ≡ plain_word name ∷ []) × (i ≡ Sort name)
sort_parts parts (Sort name) w = (name, w.spelled, refl)
sort_parts parts i w = absurd (other_word (front_word i) (codes "sort") refl w.word)

-- what stands behind `con`
pub con_parts : (parts : List Form) (i : Item) → WritesParts file.Semantics (codes "con") parts i → (name : List ℕ) × (args : List RawSort) × (sort : List ℕ) × (parts ≡ plain_word name ∷ plain_list (map written_sort args) ∷ plain_word sort ∷ []) × All IsSort args × (i ≡ Con name args sort)
con_parts parts (Con name args sort) w = (name, args, sort, w.spelled, w.lawful, refl)
con_parts parts i w = absurd (other_word (front_word i) (codes "con") refl w.word)

-- what stands behind `table`
pub table_parts : (parts : List Form) (i : Item) → WritesParts file.Semantics (codes "table") parts i → (name : List ℕ) × (key : ℕ) × (sort : RawSort) × (parts ≡ plain_word name ∷ plain_number key ∷ written_sort sort ∷ []) × IsSort sort × (i ≡ Table name key sort)
table_parts parts (Table name key sort) w = (name, key, sort, w.spelled, w.lawful, refl)
table_parts parts i w = absurd (other_word (front_word i) (codes "table") refl w.word)

-- what stands behind `config`
pub config_parts : (parts : List Form) (i : Item) → WritesParts file.Semantics (codes "config") parts i → (name : List ℕ) × (parts ≡ plain_word name ∷ []) × (i ≡ Config name)
config_parts parts (Config name) w = (name, w.spelled, refl)
config_parts parts i w = absurd (other_word (front_word i) (codes "config") refl w.word)

-- what stands behind `rule`
pub rule_parts : (parts : List Form) (i : Item) → WritesParts file.Semantics (codes "rule") parts i → (name : List ℕ) × (vars : List RawVar) × (head : RawTree) × (demands : List RawDemand) × (outcome : RawTree) × (parts ≡ plain_word name ∷ written_vars vars ∷ written_tree head ∷ (map written_demand demands ++ plain_word (codes "=>") ∷ written_tree outcome ∷ [])) × AreVariables vars × IsPattern head × All IsDemand demands × IsExpression outcome × (i ≡ Rule name vars head demands outcome)
rule_parts parts (Rule name vars head demands outcome) w = (name, vars, head, demands, outcome, w.spelled, w.lawful.0, w.lawful.1, w.lawful.2, w.lawful.3, refl)
rule_parts parts i w = absurd (other_word (front_word i) (codes "rule") refl w.word)

-- what stands behind `row`
pub row_parts : (parts : List Form) (i : Item) → WritesParts file.Program (codes "row") parts i → (table : List ℕ) × (key : ℕ) × (term : RawTree) × (parts ≡ plain_word table ∷ plain_number key ∷ written_tree term ∷ []) × IsGround term × (i ≡ Row table key term)
row_parts parts (Row table key term) w = (table, key, term, w.spelled, w.lawful, refl)
row_parts parts i w = absurd (other_word (front_word i) (codes "row") refl w.word)

-- what stands behind `cut`
pub cut_parts : (parts : List Form) (i : Item) → WritesParts file.Points (codes "cut") parts i → (left : Bool) × (name : List ℕ) × (vars : List RawVar) × (pattern : RawTree) × (whens : List RawTree) × (parts ≡ plain_word (side_word left) ∷ plain_word name ∷ written_vars vars ∷ written_tree pattern ∷ map written_when whens) × AreVariables vars × IsPattern pattern × All IsExpression whens × (i ≡ Cut left name vars pattern whens)
cut_parts parts (Cut left name vars pattern whens) w = (left, name, vars, pattern, whens, w.spelled, w.lawful.0, w.lawful.1, w.lawful.2, refl)
cut_parts parts i w = absurd (other_word (front_word i) (codes "cut") refl w.word)

-- what stands behind `point`
pub point_parts : (parts : List Form) (i : Item) → WritesParts file.Points (codes "point") parts i → (name : List ℕ) × (vars : List RawVar) × (left : RawTree) × (right : RawTree) × (whens : List RawTree) × (parts ≡ plain_word name ∷ written_vars vars ∷ written_tree left ∷ written_tree right ∷ map written_when whens) × AreVariables vars × IsExpression left × IsExpression right × All IsExpression whens × (i ≡ Point name vars left right whens)
point_parts parts (Point name vars left right whens) w = (name, vars, left, right, whens, w.spelled, w.lawful.0, w.lawful.1, w.lawful.2, w.lawful.3, refl)
point_parts parts i w = absurd (other_word (front_word i) (codes "point") refl w.word)

module _ (forms : List Form) (name vars head : Form) (low : 3 ≤ length forms) (p : name ≡ get_or forms 0 name) (q : vars ≡ get_or forms 1 vars) (r : head ≡ get_or forms 2 head) where
  -- the parts of a rule, as its reader takes them
  pub rule_split : (i : Item) → WritesParts file.Semantics (codes "rule") (map without_spans forms) i → (opening : List ℕ × List RawVar) × (body : RawTree × (List RawDemand × RawTree)) × WritesOpening (without_spans name) (without_spans vars) opening × WritesRuleBody (without_spans head) (map without_spans (take (length forms - 3) (drop 3 forms))) body
  rule_split i w =
      let all = ap (map without_spans) (list_3_up forms name vars head low p q r) in
      let parts = rule_parts _ i w in
      let whole = parts.5 in
      ((parts.0, parts.1), (parts.2, (parts.3, parts.4)), record { named = cc; over = record { spelled = cc; lawful = parts.6 } }, record { head = record { spelled = cc; lawful = parts.7 }; end = record { spelled = cc; lawful_demands = parts.8; lawful_outcome = parts.9 } })

  -- and a rule of these parts
  pub rule_written : (opening : List ℕ × List RawVar) (body : RawTree × (List RawDemand × RawTree)) → WritesOpening (without_spans name) (without_spans vars) opening → WritesRuleBody (without_spans head) (map without_spans (take (length forms - 3) (drop 3 forms))) body → WritesParts file.Semantics (codes "rule") (map without_spans forms) (Rule opening.0 opening.1 body.0 body.1.0 body.1.1)
  rule_written opening body v w =
      let named = v.named in
      let over = v.over.spelled in
      let first = w.head.spelled in
      let rest = w.end.spelled in
      record { word = refl; spelled = ap (map without_spans) (list_3_up forms name vars head low p q r) ∙ cc; lawful = (v.over.lawful, w.head.lawful, w.end.lawful_demands, w.end.lawful_outcome) }

-- the parts of a row, as its reader takes them
pub row_split : (forms : List Form) (table key term : Form) (i : Item) → 3 ≤ length forms → length forms < 4 → table ≡ get_or forms 0 table → key ≡ get_or forms 1 key → term ≡ get_or forms 2 term → WritesParts file.Program (codes "row") (map without_spans forms) i → (name : List ℕ) × (n : ℕ) × (tree : RawTree) × (without_spans table ≡ plain_word name) × (without_spans key ≡ plain_number n) × WritesTree Ground (without_spans term) tree
row_split forms table key term i low high p q r w =
    let all = ap (map without_spans) (list_3 forms table key term low high p q r) in
    let parts = row_parts _ i w in
    let whole = parts.3 in
    (parts.0, parts.1, parts.2, cc, cc, record { spelled = cc; lawful = parts.4 })

module _ (forms : List Form) (a b c d : Form) (low : 4 ≤ length forms) (p : a ≡ get_or forms 0 a) (q : b ≡ get_or forms 1 b) (r : c ≡ get_or forms 2 c) (s : d ≡ get_or forms 3 d) where
  all : map without_spans forms ≡ without_spans a ∷ without_spans b ∷ without_spans c ∷ without_spans d ∷ map without_spans (take (length forms - 4) (drop 4 forms))
  all = ap (map without_spans) (list_4_up forms a b c d low p q r s)

  -- the parts of a cut, as its reader takes them
  pub cut_split : (i : Item) → WritesParts file.Points (codes "cut") (map without_spans forms) i → (left : Bool) × (opening : List ℕ × List RawVar) × (body : RawTree × List RawTree) × (without_spans a ≡ plain_word (side_word left)) × WritesOpening (without_spans b) (without_spans c) opening × WritesGuarded Pattern (without_spans d) (map without_spans (take (length forms - 4) (drop 4 forms))) body
  cut_split i w =
      let parts = cut_parts _ i w in
      let whole = sym all ∙ parts.5 in
      (parts.0, (parts.1, parts.2), (parts.3, parts.4), cc, record { named = cc; over = record { spelled = cc; lawful = parts.6 } }, record { guards = record { spelled = cc; lawful = parts.7 }; whens = record { spelled = cc; lawful = parts.8 } })

  -- and a cut of these parts
  pub cut_written : (left : Bool) (opening : List ℕ × List RawVar) (body : RawTree × List RawTree) → without_spans a ≡ plain_word (side_word left) → WritesOpening (without_spans b) (without_spans c) opening → WritesGuarded Pattern (without_spans d) (map without_spans (take (length forms - 4) (drop 4 forms))) body → WritesParts file.Points (codes "cut") (map without_spans forms) (Cut left opening.0 opening.1 body.0 body.1)
  cut_written left opening body u v w =
      let named = v.named in
      let over = v.over.spelled in
      let first = w.guards.spelled in
      let others = w.whens.spelled in
      record { word = refl; spelled = all ∙ cc; lawful = (v.over.lawful, w.guards.lawful, w.whens.lawful) }

  -- the parts of a point, as its reader takes them
  pub point_split : (i : Item) → WritesParts file.Points (codes "point") (map without_spans forms) i → (opening : List ℕ × List RawVar) × (body : RawTree × (RawTree × List RawTree)) × WritesOpening (without_spans a) (without_spans b) opening × WritesPointBody (without_spans c) (without_spans d) (map without_spans (take (length forms - 4) (drop 4 forms))) body
  point_split i w =
      let parts = point_parts _ i w in
      let whole = sym all ∙ parts.5 in
      ((parts.0, parts.1), (parts.2, (parts.3, parts.4)), record { named = cc; over = record { spelled = cc; lawful = parts.6 } }, record { first = record { spelled = cc; lawful = parts.7 }; second = record { guards = record { spelled = cc; lawful = parts.8 }; whens = record { spelled = cc; lawful = parts.9 } } })

  -- and a point of these parts
  pub point_written : (opening : List ℕ × List RawVar) (body : RawTree × (RawTree × List RawTree)) → WritesOpening (without_spans a) (without_spans b) opening → WritesPointBody (without_spans c) (without_spans d) (map without_spans (take (length forms - 4) (drop 4 forms))) body → WritesParts file.Points (codes "point") (map without_spans forms) (Point opening.0 opening.1 body.0 body.1.0 body.1.1)
  point_written opening body v w =
      let named = v.named in
      let over = v.over.spelled in
      let first = w.first.spelled in
      let second = w.second.guards.spelled in
      let others = w.second.whens.spelled in
      record { word = refl; spelled = all ∙ cc; lawful = (v.over.lawful, w.first.lawful, w.second.guards.lawful, w.second.whens.lawful) }

-- what stands behind a rule's head
pub outcome_parts : (whens : List Form) (arrow last : Form) (demands : List RawDemand) (outcome : RawTree) → WritesOutcome (whens ++ arrow ∷ last ∷ []) demands outcome → (whens ≡ map written_demand demands) × (arrow ≡ plain_word (codes "=>")) × (last ≡ written_tree outcome)
outcome_parts whens arrow last demands outcome w = same_ends whens (map written_demand demands) arrow last (plain_word (codes "=>")) (written_tree outcome) w.spelled

-- the same of forms with spans
pub ends_of : (forms : List Form) (arrow last : Form) (demands : List RawDemand) (outcome : RawTree) → 2 ≤ length forms → arrow ≡ get_or forms (length forms - 2) arrow → last ≡ get_or forms (length forms - 1) last → WritesOutcome (map without_spans forms) demands outcome → (map without_spans (take (length forms - 2) forms) ≡ map written_demand demands) × (without_spans arrow ≡ plain_word (codes "=>")) × (without_spans last ≡ written_tree outcome)
ends_of forms arrow last demands outcome low p q w =
    let split : map without_spans forms ≡ map without_spans (take (length forms - 2) forms) ++ without_spans arrow ∷ without_spans last ∷ [] =
    ap (map without_spans) (list_last forms arrow last low p q) ∙ map-append without_spans (take (length forms - 2) forms) (arrow ∷ last ∷ []) in
    outcome_parts (map without_spans (take (length forms - 2) forms)) (without_spans arrow) (without_spans last) demands outcome (subst (λ (fs : List Form). WritesOutcome fs demands outcome) split w)
