-- Forms write at most one list of items.
use Rattle.std.proofs.Common.{◌≡◌, ◌≢◌, ℕ, List, [], ◌∷◌, map, All, Bool, true, false, codes, refl, subst, sym, ◌∙◌, ap}
use Rattle.std.proofs.lemmas.List.Elements.{All-head, All-tail}
use Rattle.sexp_text.specs.declared.form.Form.{Form}
use Rattle.rule_text.specs.Plain.{plain_word, plain_number, plain_list}
use Rattle.rule_text.specs.Written.{written_sort, written_var, written_vars, written_tree, written_when, written_row, written_demand, side_word, front_word, item_parts, written_item}
use Rattle.rule_text.specs.Lawful.{IsSort, AreVariables, IsExpression, IsDemand, IsItemOf}
use Rattle.rule_text.specs.Writes.{WritesParts, WritesItem, WritesItems}
use Rattle.rule_text.specs.declared.tree.Place.TheVariants.{Pattern, Expression, Ground}
use Rattle.rule_text.specs.declared.item.RawSort.{RawSort}
use Rattle.rule_text.specs.declared.item.RawSort.TheVariants as sort
use Rattle.rule_text.specs.declared.item.RawVar.{RawVar}
use Rattle.rule_text.specs.declared.item.RawTree.{RawTree}
use Rattle.rule_text.specs.declared.item.RawDemand.{RawDemand}
use Rattle.rule_text.specs.declared.item.RawDemand.TheVariants as demand
use Rattle.rule_text.specs.declared.item.FileKind.{FileKind}
use Rattle.rule_text.specs.declared.item.FileKind.TheVariants as file
use Rattle.rule_text.specs.declared.item.Item.{Item}
use Rattle.rule_text.specs.declared.item.Item.TheVariants.{Sort, Con, Table, Config, Rule, Row, Cut, Point, Start}
use Rattle.rule_text.proofs.Plain.{same_word, same_number, same_list, word_no_list}
use Rattle.rule_text.proofs.Slices.{same_ends}
use Rattle.rule_text.proofs.OperatorTable.{same_bytes, other_word}
use Rattle.rule_text.proofs.ItemShapes.{listed, sort_parts, con_parts, table_parts, config_parts, rule_parts, row_parts, cut_parts, point_parts}
use Rattle.rule_text.proofs.UniqueTrees.{same_tree, no_row}

-- lists of lawful values, where lawful values that are written alike are the same
pub same_values : {Y Z : Type 0} (written : Y → Z) (P : Y → Type 0) → ((a b : Y) → written a ≡ written b → P a → P b → a ≡ b) → (xs ys : List Y) → map written xs ≡ map written ys → All P xs → All P ys → xs ≡ ys
same_values written P same [] [] e p q = refl
same_values written P same [] (y ∷ ys) e p q = absurd cc
same_values written P same (x ∷ xs) [] e p q = absurd cc
same_values written P same (x ∷ xs) (y ∷ ys) e p q =
    let front : x ≡ y = same x y (cc) (All-head P x xs p) (All-head P y ys q) in
    let rest : xs ≡ ys = same_values written P same xs ys (cc) (All-tail P x xs p) (All-tail P y ys q) in
    cc

-- a named sort is not `bool`
not_bool : (name : List ℕ) → name ≡ codes "bool" → IsSort (sort.Named name) → ⊥
not_bool name e lawful = let same = same_bytes (codes "bool") in let there : IsSort (sort.Named (codes "bool")) = subst (λ n. IsSort (sort.Named n)) e lawful in cc

same_sort : (a b : RawSort) → written_sort a ≡ written_sort b → IsSort a → IsSort b → a ≡ b
same_sort sort.Bool sort.Bool e p q = refl
same_sort sort.Bool (sort.Bits n) e p q = absurd (word_no_list _ _ e)
same_sort sort.Bool (sort.Map k w) e p q = absurd (word_no_list _ _ e)
same_sort sort.Bool (sort.Named b) e p q = absurd (not_bool b (same_word b (codes "bool") (sym e)) q)
same_sort (sort.Bits m) sort.Bool e p q = absurd (word_no_list _ _ (sym e))
same_sort (sort.Bits m) (sort.Bits n) e p q =
    let parts : plain_word (codes "bits") ∷ plain_number m ∷ [] ≡ plain_word (codes "bits") ∷ plain_number n ∷ [] = same_list _ _ e in
    ap sort.Bits (same_number m n cc)
same_sort (sort.Bits m) (sort.Map k w) e p q =
    let parts : plain_word (codes "bits") ∷ plain_number m ∷ [] ≡ plain_word (codes "map") ∷ plain_number k ∷ plain_number w ∷ [] = same_list _ _ e in absurd cc
same_sort (sort.Bits m) (sort.Named b) e p q = absurd (word_no_list _ _ (sym e))
same_sort (sort.Map k w) sort.Bool e p q = absurd (word_no_list _ _ (sym e))
same_sort (sort.Map k w) (sort.Bits n) e p q =
    let parts : plain_word (codes "map") ∷ plain_number k ∷ plain_number w ∷ [] ≡ plain_word (codes "bits") ∷ plain_number n ∷ [] = same_list _ _ e in absurd cc
same_sort (sort.Map k w) (sort.Map l v) e p q =
    let parts : plain_word (codes "map") ∷ plain_number k ∷ plain_number w ∷ [] ≡ plain_word (codes "map") ∷ plain_number l ∷ plain_number v ∷ [] = same_list _ _ e in
    ap (λ n. sort.Map n w) (same_number k l cc) ∙ ap (sort.Map l) (same_number w v cc)
same_sort (sort.Map k w) (sort.Named b) e p q = absurd (word_no_list _ _ (sym e))
same_sort (sort.Named a) sort.Bool e p q = absurd (not_bool a (same_word a (codes "bool") e) p)
same_sort (sort.Named a) (sort.Bits n) e p q = absurd (word_no_list _ _ e)
same_sort (sort.Named a) (sort.Map k w) e p q = absurd (word_no_list _ _ e)
same_sort (sort.Named a) (sort.Named b) e p q = ap sort.Named (same_word a b e)

abbrev var_of : RawSort → List ℕ → RawVar
var_of sort name = record { name = name; sort = sort }

same_var : (a b : RawVar) → written_var a ≡ written_var b → IsSort a.sort → IsSort b.sort → a ≡ b
same_var a b e p q =
    let parts : plain_word a.name ∷ written_sort a.sort ∷ [] ≡ plain_word b.name ∷ written_sort b.sort ∷ [] = same_list _ _ e in
    let name : a.name ≡ b.name = same_word a.name b.name cc in
    let sort : a.sort ≡ b.sort = same_sort a.sort b.sort (cc) p q in
    ap (var_of a.sort) name ∙ ap (λ s. var_of s b.name) sort

same_vars : (xs ys : List RawVar) → written_vars xs ≡ written_vars ys → AreVariables xs → AreVariables ys → xs ≡ ys
same_vars xs ys e p q =
    let parts : plain_word (codes "vars") ∷ map written_var xs ≡ plain_word (codes "vars") ∷ map written_var ys = same_list _ _ e in
    same_values written_var (λ x. IsSort x.sort) same_var xs ys (cc) p q

same_when : (a b : RawTree) → written_when a ≡ written_when b → IsExpression a → IsExpression b → a ≡ b
same_when a b e p q =
    let parts : plain_word (codes "when") ∷ written_tree a ∷ [] ≡ plain_word (codes "when") ∷ written_tree b ∷ [] = same_list _ _ e in
    same_tree Expression a b (cc) p q

same_whens : (xs ys : List RawTree) → map written_when xs ≡ map written_when ys → All IsExpression xs → All IsExpression ys → xs ≡ ys
same_whens = same_values written_when IsExpression same_when

-- the parts of a `let`
let_parts : (a b c d : Form) → plain_list (plain_word (codes "let") ∷ a ∷ b ∷ []) ≡ plain_list (plain_word (codes "let") ∷ c ∷ d ∷ []) → (a ≡ c) × (b ≡ d)
let_parts a b c d e =
    let parts : plain_word (codes "let") ∷ a ∷ b ∷ [] ≡ plain_word (codes "let") ∷ c ∷ d ∷ [] = same_list _ _ e in (cc, cc)

no_let_when : (a b c : Form) → plain_list (plain_word (codes "let") ∷ a ∷ b ∷ []) ≡ plain_list (plain_word (codes "when") ∷ c ∷ []) → ⊥
no_let_when a b c e = let parts : plain_word (codes "let") ∷ a ∷ b ∷ [] ≡ plain_word (codes "when") ∷ c ∷ [] = same_list _ _ e in cc

same_row : (m n : List ℕ) (a b : RawTree) → written_row m a ≡ written_row n b → IsExpression a → IsExpression b → (m ≡ n) × (a ≡ b)
same_row m n a b e p q =
    let parts : plain_word (codes "row") ∷ plain_word m ∷ written_tree a ∷ [] ≡ plain_word (codes "row") ∷ plain_word n ∷ written_tree b ∷ [] = same_list _ _ e in
    (same_word m n cc, same_tree Expression a b (cc) p q)

same_demand : (a b : RawDemand) → written_demand a ≡ written_demand b → IsDemand a → IsDemand b → a ≡ b
same_demand (demand.Let a s) (demand.Let b t) e p q =
    let parts = let_parts (written_tree a) (written_tree s) (written_tree b) (written_tree t) e in
    ap (λ x. demand.Let x s) (same_tree Pattern a b parts.0 p.0 q.0) ∙ ap (demand.Let b) (same_tree Expression s t parts.1 p.1 q.1)
same_demand (demand.Let a s) (demand.LetRow b n k) e p q = absurd (no_row Expression s _ (let_parts (written_tree a) (written_tree s) (written_tree b) (written_row n k) e).1 p.1)
same_demand (demand.Let a s) (demand.When c) e p q = absurd (no_let_when _ _ _ e)
same_demand (demand.LetRow a m j) (demand.Let b t) e p q = absurd (no_row Expression t _ (sym (let_parts (written_tree a) (written_row m j) (written_tree b) (written_tree t) e).1) q.1)
same_demand (demand.LetRow a m j) (demand.LetRow b n k) e p q =
    let parts = let_parts (written_tree a) (written_row m j) (written_tree b) (written_row n k) e in
    let row = same_row m n j k parts.1 p.1 q.1 in
    ap (λ x. demand.LetRow x m j) (same_tree Pattern a b parts.0 p.0 q.0) ∙ ap (λ x. demand.LetRow b x j) row.0 ∙ ap (demand.LetRow b n) row.1
same_demand (demand.LetRow a m j) (demand.When c) e p q = absurd (no_let_when _ _ _ e)
same_demand (demand.When a) (demand.Let b t) e p q = absurd (no_let_when _ _ _ (sym e))
same_demand (demand.When a) (demand.LetRow b n k) e p q = absurd (no_let_when _ _ _ (sym e))
same_demand (demand.When a) (demand.When b) e p q = ap demand.When (same_when a b e p q)

same_side : (a b : Bool) → side_word a ≡ side_word b → a ≡ b
same_side true true e = refl
same_side true false e = absurd (other_word (codes "left") (codes "right") refl e)
same_side false true e = absurd (other_word (codes "right") (codes "left") refl e)
same_side false false e = refl

-- the second of two items that are written alike, behind the word of the first
second_parts : (kind : FileKind) (a b : Item) → kind ≢ file.Start → written_item a ≡ written_item b → IsItemOf kind a → IsItemOf kind b → WritesParts kind (front_word a) (item_parts a) b
second_parts kind a b k e p q =
    let parts : plain_word (front_word a) ∷ item_parts a ≡ plain_word (front_word b) ∷ item_parts b = same_list _ _ (sym (listed kind a k p) ∙ e ∙ listed kind b k q) in
    record { word = same_word (front_word b) (front_word a) cc; spelled = cc; lawful = q }

-- lawful items that are written alike are the same
pub same_item : (kind : FileKind) (a b : Item) → written_item a ≡ written_item b → IsItemOf kind a → IsItemOf kind b → a ≡ b
same_item file.Semantics (Sort name) b e p q =
    let other = sort_parts _ b (second_parts file.Semantics (Sort name) b (λ k. cc) e p q) in
    let whole = other.1 in
    ap Sort (same_word name other.0 cc) ∙ sym other.2
same_item file.Semantics (Con name args sort) b e p q =
    let other = con_parts _ b (second_parts file.Semantics (Con name args sort) b (λ k. cc) e p q) in
    let whole = other.3 in
    let same_name : name ≡ other.0 = same_word name other.0 cc in
    let same_args : args ≡ other.1 = same_values written_sort IsSort same_sort args other.1 (same_list _ _ cc) p other.4 in
    let same_result : sort ≡ other.2 = same_word sort other.2 cc in
    let is = other.5 in
    cc
same_item file.Semantics (Table name key sort) b e p q =
    let other = table_parts _ b (second_parts file.Semantics (Table name key sort) b (λ k. cc) e p q) in
    let whole = other.3 in
    let same_name : name ≡ other.0 = same_word name other.0 cc in
    let same_key : key ≡ other.1 = same_number key other.1 cc in
    let same_result : sort ≡ other.2 = same_sort sort other.2 (cc) p other.4 in
    let is = other.5 in
    cc
same_item file.Semantics (Config name) b e p q =
    let other = config_parts _ b (second_parts file.Semantics (Config name) b (λ k. cc) e p q) in
    let whole = other.1 in
    ap Config (same_word name other.0 cc) ∙ sym other.2
same_item file.Semantics (Rule name vars head demands outcome) b e p q =
    let other = rule_parts _ b (second_parts file.Semantics (Rule name vars head demands outcome) b (λ k. cc) e p q) in
    let whole = other.5 in
    let ends = same_ends (map written_demand demands) (map written_demand other.3) (plain_word (codes "=>")) (written_tree outcome) (plain_word (codes "=>")) (written_tree other.4) (cc) in
    let same_name : name ≡ other.0 = same_word name other.0 cc in
    let same_variables : vars ≡ other.1 = same_vars vars other.1 (cc) p.0 other.6 in
    let same_head : head ≡ other.2 = same_tree Pattern head other.2 (cc) p.1 other.7 in
    let same_demands : demands ≡ other.3 = same_values written_demand IsDemand same_demand demands other.3 ends.0 p.2 other.8 in
    let same_outcome : outcome ≡ other.4 = same_tree Expression outcome other.4 ends.2 p.3 other.9 in
    let is = other.10 in
    cc
same_item file.Semantics a b e p q = absurd p
same_item file.Program (Row table key term) b e p q =
    let other = row_parts _ b (second_parts file.Program (Row table key term) b (λ k. cc) e p q) in
    let whole = other.3 in
    let same_table : table ≡ other.0 = same_word table other.0 cc in
    let same_key : key ≡ other.1 = same_number key other.1 cc in
    let same_term : term ≡ other.2 = same_tree Ground term other.2 (cc) p other.4 in
    let is = other.5 in
    cc
same_item file.Program a b e p q = absurd p
same_item file.Points (Cut left name vars pattern whens) b e p q =
    let other = cut_parts _ b (second_parts file.Points (Cut left name vars pattern whens) b (λ k. cc) e p q) in
    let whole = other.5 in
    let same_of_cut : left ≡ other.0 = same_side left other.0 (same_word _ _ cc) in
    let same_name : name ≡ other.1 = same_word name other.1 cc in
    let same_variables : vars ≡ other.2 = same_vars vars other.2 (cc) p.0 other.6 in
    let same_pattern : pattern ≡ other.3 = same_tree Pattern pattern other.3 (cc) p.1 other.7 in
    let same_conditions : whens ≡ other.4 = same_whens whens other.4 (cc) p.2 other.8 in
    let is = other.9 in
    cc
same_item file.Points (Point name vars left right whens) b e p q =
    let other = point_parts _ b (second_parts file.Points (Point name vars left right whens) b (λ k. cc) e p q) in
    let whole = other.5 in
    let same_name : name ≡ other.0 = same_word name other.0 cc in
    let same_variables : vars ≡ other.1 = same_vars vars other.1 (cc) p.0 other.6 in
    let same_left : left ≡ other.2 = same_tree Expression left other.2 (cc) p.1 other.7 in
    let same_right : right ≡ other.3 = same_tree Expression right other.3 (cc) p.2 other.8 in
    let same_conditions : whens ≡ other.4 = same_whens whens other.4 (cc) p.3 other.9 in
    let is = other.10 in
    cc
same_item file.Points a b e p q = absurd p
same_item file.Start (Start tree) (Start other) e p q = ap Start (same_tree Ground tree other e p q)
same_item file.Start (Start tree) b e p q = absurd q
same_item file.Start a b e p q = absurd p

-- a form writes at most one item
pub one_item : (kind : FileKind) (form : Form) (a b : Item) → WritesItem kind form a → WritesItem kind form b → a ≡ b
one_item kind form a b w v = same_item kind a b (sym w.spelled ∙ v.spelled) w.lawful v.lawful

-- forms write at most one list of items
pub same_items : (kind : FileKind) (forms : List Form) (xs ys : List Item) → WritesItems kind forms xs → WritesItems kind forms ys → xs ≡ ys
same_items kind forms xs ys w v = same_values written_item (IsItemOf kind) (same_item kind) xs ys (sym w.written.spelled ∙ v.written.spelled) w.written.lawful v.written.lawful
