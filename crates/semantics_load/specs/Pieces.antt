-- What an item of a semantics says, with numbers in the place of names.
use Rattle.std.specs.Prelude.{ℕ, if◌then◌else◌, List, [], ◌∷◌, ◌++◌, map, Option, Some, None, option_map}
use Rattle.data_value.specs.Sorts.{is_width}
use Rattle.rule_text.specs.declared.item.RawDemand.{RawDemand}
use Rattle.rule_text.specs.declared.item.RawDemand.TheVariants as written
use Rattle.rule_text.specs.declared.item.Item.{Item}
use Rattle.rule_text.specs.declared.item.Item.TheVariants as item
use Rattle.sort_term.specs.declared.ids.SortId.{SortId}
use Rattle.sort_term.specs.declared.ids.TableId.{TableId}
use Rattle.sort_term.specs.declared.term.Sort.{Sort}
use Rattle.sort_term.specs.declared.semantics.Con.{Con}
use Rattle.sort_term.specs.declared.semantics.Table.{Table}
use Rattle.sort_term.specs.declared.rule.Var.{Var}
use Rattle.sort_term.specs.declared.rule.Pattern.{Pattern}
use Rattle.sort_term.specs.declared.rule.RuleExpr.{RuleExpr}
use Rattle.sort_term.specs.declared.rule.Rule.{Rule}
use Rattle.sort_term.specs.declared.rule.Source.TheVariants.{Expr, Row as RowOf}
use Rattle.sort_term.specs.declared.rule.Demand.{Demand}
use Rattle.sort_term.specs.declared.rule.Demand.TheVariants.{Let, When}
use Rattle.sort_term.specs.Sorted.{all_there}
use Rattle.name_resolution.specs.Known.{Vocabulary, declared_sort, sort_of, table_of}
use Rattle.name_resolution.specs.Variables.{names_of}
use Rattle.name_resolution.specs.Reads.{pattern_of, expression_of, variables_of}
use Rattle.semantics_load.specs.declared.piece.Piece.{Piece}
use Rattle.semantics_load.specs.declared.piece.Piece.TheVariants as piece
use Rattle.semantics_load.specs.Declaring.{Declared, known_in}

-- one thing more is declared
abbrev pub with_piece : Declared → Piece → Declared
with_piece d (piece.Sort name) = record { sorts = d.sorts ++ name ∷ []; cons = d.cons; tables = d.tables; config = d.config; rules = d.rules }
with_piece d (piece.Con c) = record { sorts = d.sorts; cons = d.cons ++ c ∷ []; tables = d.tables; config = d.config; rules = d.rules }
with_piece d (piece.Table t) = record { sorts = d.sorts; cons = d.cons; tables = d.tables ++ t ∷ []; config = d.config; rules = d.rules }
with_piece d (piece.Config a) = record { sorts = d.sorts; cons = d.cons; tables = d.tables; config = Some a; rules = d.rules }
with_piece d (piece.Rule r) = record { sorts = d.sorts; cons = d.cons; tables = d.tables; config = d.config; rules = d.rules ++ r ∷ [] }

-- a constructor, where its argument sorts and the sort that it makes are there
abbrev pub con_from : List ℕ → Option (List Sort) → Option SortId → Option Con
con_from name (Some args) (Some a) = Some (record { name = name; args = args; sort = a })
con_from name _ _ = None

-- a table, where its key width is from 1 to 64 and the sort of its terms is there
abbrev pub table_from : List ℕ → ℕ → Option Sort → Option Table
table_from name key (Some a) = if is_width key then Some (record { name = name; key = key; sort = a }) else None
table_from name key None = None

-- a `let`, where both sides are there
abbrev pub let_from : Option Pattern → Option RuleExpr → Option Demand
let_from (Some p) (Some e) = Some (Let p (Expr e))
let_from _ _ = None

-- a `let` that reads a table, where its parts are there
abbrev pub let_row_from : Option Pattern → Option (TableId × Table) → Option RuleExpr → Option Demand
let_row_from (Some p) (Some t) (Some e) = Some (Let p (RowOf t.0 e))
let_row_from _ _ _ = None

-- the demand that is written, over what is known and the names of the variables
abbrev pub demand_of : Vocabulary → List (List ℕ) → RawDemand → Option Demand
demand_of known vars (written.Let p e) = let_from (pattern_of known vars p) (expression_of known vars e)
demand_of known vars (written.LetRow p table key) = let_row_from (pattern_of known vars p) (table_of known table) (expression_of known vars key)
demand_of known vars (written.When e) = option_map When (expression_of known vars e)

-- the demands that are written
abbrev pub demands_of : Vocabulary → List (List ℕ) → List RawDemand → Option (List Demand)
demands_of known vars raws = all_there (map (demand_of known vars) raws)

-- two parts, where both are there
abbrev pub both_from : {X Y : Type 0} → Option X → Option Y → Option (X × Y)
both_from (Some x) (Some y) = Some (x, y)
both_from _ _ = None

-- a rule, where its parts are there
abbrev pub rule_from : List ℕ → Option (List Var) → Option Pattern → Option (List Demand) → Option RuleExpr → Option Rule
rule_from name (Some vars) (Some head) (Some demands) (Some end) = Some (record { name = name; vars = vars; head = head; demands = demands; result = end })
rule_from name _ _ _ _ = None

-- the names of the variables of an item: only a rule has some
abbrev pub names_in : Item → List (List ℕ)
names_in (item.Rule name vars head demands outcome) = names_of vars
names_in _ = []

-- what an item says of a semantics, behind others that declare d
abbrev pub piece_of : Declared → Item → Option Piece
piece_of d (item.Sort name) = Some (piece.Sort name)
piece_of d (item.Con name args sort) = option_map piece.Con (con_from name (all_there (map (sort_of (known_in d)) args)) (declared_sort (known_in d) sort))
piece_of d (item.Table name key sort) = option_map piece.Table (table_from name key (sort_of (known_in d) sort))
piece_of d (item.Config name) = option_map piece.Config (declared_sort (known_in d) name)
piece_of d (item.Rule name vars head demands outcome) = option_map piece.Rule (rule_from name (variables_of (known_in d) vars) (pattern_of (known_in d) (names_of vars) head) (demands_of (known_in d) (names_of vars) demands) (expression_of (known_in d) (names_of vars) outcome))
piece_of d _ = None
