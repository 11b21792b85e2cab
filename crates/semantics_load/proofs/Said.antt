-- What an item says, by its kind: its parts are what is written, and its name is new where the item has its names.
use Rattle.std.proofs.Common.{◌≡◌, ℕ, Bool, true, false, List, map, Option, Some, None, refl, sym, subst}
use Rattle.std.specs.Prelude.{option_map, if◌then◌else◌}
use Rattle.std.proofs.lemmas.Option.{same_Some}
use Rattle.data_value.specs.Sorts.{is_width}
use Rattle.rule_text.specs.declared.item.RawSort.{RawSort}
use Rattle.rule_text.specs.declared.item.RawVar.{RawVar}
use Rattle.rule_text.specs.declared.item.RawTree.{RawTree}
use Rattle.rule_text.specs.declared.item.RawDemand.{RawDemand}
use Rattle.rule_text.specs.declared.item.Item.{Item}
use Rattle.rule_text.specs.declared.item.Item.TheVariants as item
use Rattle.sort_term.specs.declared.ids.SortId.{SortId}
use Rattle.sort_term.specs.declared.term.Sort.{Sort}
use Rattle.sort_term.specs.declared.semantics.Con.{Con}
use Rattle.sort_term.specs.declared.semantics.Table.{Table}
use Rattle.sort_term.specs.declared.rule.Var.{Var}
use Rattle.sort_term.specs.declared.rule.Pattern.{Pattern}
use Rattle.sort_term.specs.declared.rule.RuleExpr.{RuleExpr}
use Rattle.sort_term.specs.declared.rule.Rule.{Rule}
use Rattle.sort_term.specs.declared.rule.Demand.{Demand}
use Rattle.sort_term.specs.Sorted.{all_there}
use Rattle.name_resolution.specs.Known.{declared_sort, sort_of}
use Rattle.name_resolution.specs.Names.{IsNew}
use Rattle.name_resolution.specs.Reads.{pattern_of, expression_of, variables_of}
use Rattle.semantics_load.specs.declared.piece.Piece.{Piece}
use Rattle.semantics_load.specs.declared.piece.Piece.TheVariants as piece
use Rattle.semantics_load.specs.Declaring.{Declared, known_in}
use Rattle.name_resolution.specs.Variables.{names_of}
use Rattle.semantics_load.specs.Pieces.{con_from, table_from, rule_from, demands_of, piece_of}
use Rattle.semantics_load.specs.Names.{HasNames, IsPieceNew}

-- a constructor with these parts
pub record SaysCon (name : List ℕ) (args : Option (List Sort)) (sort : Option SortId) (p : Piece) : Type 0 where
  pub con : Con
  pub is : p ≡ piece.Con con
  pub named : con.name ≡ name
  pub takes : args ≡ Some con.args
  pub makes : sort ≡ Some con.sort

con_said : (name : List ℕ) (args : Option (List Sort)) (sort : Option SortId) (p : Piece) → option_map piece.Con (con_from name args sort) ≡ Some p → SaysCon name args sort p
con_said name None None p says = absurd cc
con_said name None (Some a) p says = absurd cc
con_said name (Some args) None p says = absurd cc
con_said name (Some args) (Some a) p says = record { con = record { name = name; args = args; sort = a }; is = sym (same_Some _ p says); named = refl; takes = refl; makes = refl }

-- a table with these parts
pub record SaysTable (name : List ℕ) (key : ℕ) (sort : Option Sort) (p : Piece) : Type 0 where
  pub table : Table
  pub is : p ≡ piece.Table table
  pub named : table.name ≡ name
  pub keyed : table.key ≡ key
  pub of : sort ≡ Some table.sort

table_said : (name : List ℕ) (key : ℕ) (sort : Option Sort) (p : Piece) → option_map piece.Table (table_from name key sort) ≡ Some p → SaysTable name key sort p
table_said name key None p says = absurd cc
table_said name key (Some a) p says = by (is_width key) says
  where
    by : (b : Bool) → option_map piece.Table (if b then Some (record { name = name; key = key; sort = a }) else None) ≡ Some p → SaysTable name key (Some a) p
    by true h = record { table = record { name = name; key = key; sort = a }; is = sym (same_Some _ p h); named = refl; keyed = refl; of = refl }
    by false h = absurd cc

-- the sort of the states
pub record SaysConfig (sort : Option SortId) (p : Piece) : Type 0 where
  pub config : SortId
  pub is : p ≡ piece.Config config
  pub told : sort ≡ Some config

config_said : (sort : Option SortId) (p : Piece) → option_map piece.Config sort ≡ Some p → SaysConfig sort p
config_said None p says = absurd cc
config_said (Some a) p says = record { config = a; is = sym (same_Some _ p says); told = refl }

-- a rule with these parts
pub record SaysRule (name : List ℕ) (vars : Option (List Var)) (head : Option Pattern) (demands : Option (List Demand)) (end : Option RuleExpr) (p : Piece) : Type 0 where
  pub rule : Rule
  pub is : p ≡ piece.Rule rule
  pub named : rule.name ≡ name
  pub vars_are : vars ≡ Some rule.vars
  pub demands_are : demands ≡ Some rule.demands

rule_said : (name : List ℕ) (vars : Option (List Var)) (head : Option Pattern) (demands : Option (List Demand)) (end : Option RuleExpr) (p : Piece) → option_map piece.Rule (rule_from name vars head demands end) ≡ Some p → SaysRule name vars head demands end p
rule_said name None head demands end p says = absurd cc
rule_said name (Some vars) None demands end p says = absurd cc
rule_said name (Some vars) (Some head) None end p says = absurd cc
rule_said name (Some vars) (Some head) (Some demands) None p says = absurd cc
rule_said name (Some vars) (Some head) (Some demands) (Some end) p says =
    record { rule = record { name = name; vars = vars; head = head; demands = demands; result = end }; is = sym (same_Some _ p says); named = refl; vars_are = refl; demands_are = refl }

-- what each kind of item says
module _ (d : Declared) (p : Piece) where
  pub says_sort : (name : List ℕ) → piece_of d (item.Sort name) ≡ Some p → p ≡ piece.Sort name
  says_sort name says = sym (same_Some (piece.Sort name) p says)

  pub says_con : (name : List ℕ) (args : List RawSort) (sort : List ℕ) → piece_of d (item.Con name args sort) ≡ Some p → SaysCon name (all_there (map (sort_of (known_in d)) args)) (declared_sort (known_in d) sort) p
  says_con name args sort says = con_said name _ _ p says

  pub says_table : (name : List ℕ) (key : ℕ) (sort : RawSort) → piece_of d (item.Table name key sort) ≡ Some p → SaysTable name key (sort_of (known_in d) sort) p
  says_table name key sort says = table_said name key _ p says

  pub says_config : (name : List ℕ) → piece_of d (item.Config name) ≡ Some p → SaysConfig (declared_sort (known_in d) name) p
  says_config name says = config_said _ p says

  pub says_rule : (name : List ℕ) (vars : List RawVar) (head : RawTree) (demands : List RawDemand) (outcome : RawTree) → piece_of d (item.Rule name vars head demands outcome) ≡ Some p → SaysRule name (variables_of (known_in d) vars) (pattern_of (known_in d) (names_of vars) head) (demands_of (known_in d) (names_of vars) demands) (expression_of (known_in d) (names_of vars) outcome) p
  says_rule name vars head demands outcome says = rule_said name _ _ _ _ p says

-- what an item says that has its names has a new name
pub piece_is_new : (d : Declared) (i : Item) (p : Piece) → HasNames d i → piece_of d i ≡ Some p → IsPieceNew d p
piece_is_new d (item.Sort name) p h says = subst (IsPieceNew d) (sym (says_sort d p name says)) h.new
piece_is_new d (item.Con name args sort) p h says =
    let s = says_con d p name args sort says in
    subst (IsPieceNew d) (sym s.is) (subst (λ n. IsNew n (map (λ c. c.name) d.cons)) (sym s.named) h.0.new)
piece_is_new d (item.Table name key sort) p h says =
    let s = says_table d p name key sort says in
    subst (IsPieceNew d) (sym s.is) (subst (λ n. IsNew n (map (λ t. t.name) d.tables)) (sym s.named) h.0.new)
piece_is_new d (item.Config name) p h says = let s = says_config d p name says in subst (IsPieceNew d) (sym s.is) tt
piece_is_new d (item.Rule name vars head demands outcome) p h says =
    let s = says_rule d p name vars head demands outcome says in
    subst (IsPieceNew d) (sym s.is) (subst (λ n. IsNew n (map (λ r. r.name) d.rules)) (sym s.named) h.1)
piece_is_new d (item.Row table key term) p h says = absurd cc
piece_is_new d (item.Cut left name vars pattern whens) p h says = absurd cc
piece_is_new d (item.Point name vars left right whens) p h says = absurd cc
piece_is_new d (item.Start tree) p h says = absurd cc
