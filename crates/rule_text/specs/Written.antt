-- What is written of raw items: forms, with their spans put to 0.
use Rattle.std.specs.Prelude.{List, ℕ, Bool, [], ◌∷◌, ◌++◌, if◌then◌else◌, map, codes}
use Rattle.sexp_text.specs.declared.form.Form.{Form}
use Rattle.rule_text.specs.Plain.{plain_word, plain_number, plain_list}
use Rattle.rule_text.specs.declared.item.RawSort.{RawSort}
use Rattle.rule_text.specs.declared.item.RawSort.TheVariants as sort
use Rattle.rule_text.specs.declared.item.RawVar.{RawVar}
use Rattle.rule_text.specs.declared.item.RawTree.{RawTree, RawTree-F, fold-RawTree}
use Rattle.rule_text.specs.declared.item.RawDemand.{RawDemand}
use Rattle.rule_text.specs.declared.item.RawDemand.TheVariants as demand
use Rattle.rule_text.specs.declared.item.Item.{Item}
use Rattle.rule_text.specs.declared.item.Item.TheVariants as item

-- `bool`, `(bits N)`, `(map N N)` or a word
abbrev pub written_sort : RawSort → Form
written_sort sort.Bool = plain_word (codes "bool")
written_sort (sort.Bits width) = plain_list (plain_word (codes "bits") ∷ plain_number width ∷ [])
written_sort (sort.Map key word) = plain_list (plain_word (codes "map") ∷ plain_number key ∷ plain_number word ∷ [])
written_sort (sort.Named name) = plain_word name

-- `(WORD SORT)`
abbrev pub written_var : RawVar → Form
written_var var = plain_list (plain_word var.name ∷ written_sort var.sort ∷ [])

-- `(vars (WORD SORT) ..)`
abbrev pub written_vars : List RawVar → Form
written_vars vars = plain_list (plain_word (codes "vars") ∷ map written_var vars)

-- `true` or `false`
abbrev pub flag_word : Bool → List ℕ
flag_word flag = if flag then codes "true" else codes "false"

-- `(KEY WORD)`
abbrev pub written_pair : ℕ × ℕ → Form
written_pair pair = plain_list (plain_number pair.0 ∷ plain_number pair.1 ∷ [])

-- A tree by its kind: a word, a number, `true` or `false`, `(bits N N)`, `(map N N (N N) ..)`, or a name in front of its
-- numbers, if it has some, and its arguments.
abbrev pub written_node : RawTree-F Form → Form
written_node (RawTree-F.Word name) = plain_word name
written_node (RawTree-F.Number n) = plain_number n
written_node (RawTree-F.Flag flag) = plain_word (flag_word flag)
written_node (RawTree-F.Bits width n) = plain_list (plain_word (codes "bits") ∷ plain_number width ∷ plain_number n ∷ [])
written_node (RawTree-F.Map key word entries) = plain_list (plain_word (codes "map") ∷ plain_number key ∷ plain_number word ∷ map written_pair entries)
written_node (RawTree-F.Con name args) = plain_list (plain_word name ∷ args)
written_node (RawTree-F.Op name numbers args) = plain_list (plain_word name ∷ (map plain_number numbers ++ args))

-- a pattern, an expression or a ground term
abbrev pub written_tree : RawTree → Form
written_tree = fold-RawTree Form written_node

-- `(when EXPR)`
abbrev pub written_when : RawTree → Form
written_when condition = plain_list (plain_word (codes "when") ∷ written_tree condition ∷ [])

-- `(row WORD EXPR)`
abbrev pub written_row : List ℕ → RawTree → Form
written_row table key = plain_list (plain_word (codes "row") ∷ plain_word table ∷ written_tree key ∷ [])

-- `(let PAT EXPR)`, `(let PAT (row WORD EXPR))` or `(when EXPR)`
abbrev pub written_demand : RawDemand → Form
written_demand (demand.Let pattern source) = plain_list (plain_word (codes "let") ∷ written_tree pattern ∷ written_tree source ∷ [])
written_demand (demand.LetRow pattern table key) = plain_list (plain_word (codes "let") ∷ written_tree pattern ∷ written_row table key ∷ [])
written_demand (demand.When condition) = written_when condition

-- the word of a side
abbrev pub side_word : Bool → List ℕ
side_word left = if left then codes "left" else codes "right"

-- the word that an item begins with; a start text's item has none
abbrev pub front_word : Item → List ℕ
front_word (item.Sort name) = codes "sort"
front_word (item.Con name args sort) = codes "con"
front_word (item.Table name key sort) = codes "table"
front_word (item.Config name) = codes "config"
front_word (item.Rule name vars head demands outcome) = codes "rule"
front_word (item.Row table key term) = codes "row"
front_word (item.Cut left name vars pattern whens) = codes "cut"
front_word (item.Point name vars left right whens) = codes "point"
front_word (item.Start tree) = []

-- what follows that word
abbrev pub item_parts : Item → List Form
item_parts (item.Sort name) = plain_word name ∷ []
item_parts (item.Con name args sort) = plain_word name ∷ plain_list (map written_sort args) ∷ plain_word sort ∷ []
item_parts (item.Table name key sort) = plain_word name ∷ plain_number key ∷ written_sort sort ∷ []
item_parts (item.Config name) = plain_word name ∷ []
item_parts (item.Rule name vars head demands outcome) = plain_word name ∷ written_vars vars ∷ written_tree head ∷ (map written_demand demands ++ plain_word (codes "=>") ∷ written_tree outcome ∷ [])
item_parts (item.Row table key term) = plain_word table ∷ plain_number key ∷ written_tree term ∷ []
item_parts (item.Cut left name vars pattern whens) = plain_word (side_word left) ∷ plain_word name ∷ written_vars vars ∷ written_tree pattern ∷ map written_when whens
item_parts (item.Point name vars left right whens) = plain_word name ∷ written_vars vars ∷ written_tree left ∷ written_tree right ∷ map written_when whens
item_parts (item.Start tree) = []

-- an item: its word with what follows, and a start text's item as its tree
abbrev pub written_item : Item → Form
written_item (item.Start tree) = written_tree tree
written_item i = plain_list (plain_word (front_word i) ∷ item_parts i)
