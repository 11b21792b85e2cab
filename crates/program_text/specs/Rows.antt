-- What the items of a program make, one after the other.
use Rattle.std.specs.Prelude.{◌≡◌, ◌<◌, ◌==◌, ◌^◌, ℕ, IsTrue, IsFalse, IsSome, List, [], ◌∷◌, ◌++◌, map, length, slice_get, slice_set, Option, Some, None, refl, ⊤}
use Rattle.std.specs.Coded.{Coded, code_by, coded×, coded_list}
use Rattle.std.specs.List.{list_any}
use Rattle.rule_text.specs.Faults.{Loading}
use Rattle.rule_text.specs.declared.error.ItemFault.{ItemFault}
use Rattle.rule_text.specs.declared.error.ItemFault.TheVariants.{Shape, Name, Limit, Sort, Unbound, DoubleKey, Undetermined}
use Rattle.rule_text.specs.declared.item.FileKind.TheVariants as file
use Rattle.rule_text.specs.declared.item.RawTree.{RawTree}
use Rattle.rule_text.specs.declared.item.Item.{Item}
use Rattle.rule_text.specs.declared.item.Item.TheVariants as item
use Rattle.sort_term.specs.declared.ids.TableId.{TableId}
use Rattle.sort_term.specs.declared.program.Row.{Row}
use Rattle.sort_term.specs.declared.semantics.Table.{Table}
use Rattle.sort_term.specs.contracts.program.Row as row
use Rattle.sort_term.specs.Sorted.{IsTreeOf}
use Rattle.sort_term.specs.Step.{Tables}
use Rattle.sort_term.specs.System.{System, system_code}
use Rattle.name_resolution.specs.Known.{vocabulary_in, table_of}
use Rattle.name_resolution.specs.Named.{is_named_tree}
use Rattle.name_resolution.specs.Within.{IsWithinTree}
use Rattle.name_resolution.specs.Reads.{ground_of}

-- a semantics, and for each of its tables the rows so far
pub record RowsOf : Type 0 where
  pub semantics : System
  pub rows : Tables

-- how a proof tells two of these apart: by their parts
abbrev pub rows_code : Coded RowsOf
rows_code =
    code_by (System × List (List Row))
    (coded× system_code (coded_list (coded_list row.the_row.coded)))
    (λ d. (d.semantics, d.rows))
    (λ p. record { semantics = p.0; rows = p.1 })
    (λ _. refl)

-- before the first item no table has rows
abbrev pub no_rows : System → RowsOf
no_rows s = record { semantics = s; rows = map (λ _. []) s.tables }

-- the rows so far of a table
abbrev pub list_at : Option (List Row) → List Row
list_at None = []
list_at (Some rows) = rows

abbrev pub rows_at : RowsOf → TableId → List Row
rows_at d t = list_at (slice_get d.rows t.0)

-- one row more of a table
abbrev pub with_row : RowsOf → TableId → Row → RowsOf
with_row d t r = record { semantics = d.semantics; rows = slice_set d.rows t.0 (rows_at d t ++ r ∷ []) }

-- a table of the semantics, by its name
abbrev pub IsTableOf : RowsOf → List ℕ → TableId × Table → Type 0
IsTableOf d name t = table_of (vocabulary_in d.semantics) name ≡ Some t

-- an item of a program names a table, and in its term constructors
abbrev pub HasNames : RowsOf → Item → Type 0
HasNames d (item.Row table key term) = IsSome (table_of (vocabulary_in d.semantics) table) × IsTrue (is_named_tree (vocabulary_in d.semantics) [] term)
HasNames d _ = ⊤

-- a row is not one too many, and its key and its term keep their limits
pub record IsRowWithin (d : RowsOf) (t : TableId × Table) (key : ℕ) (term : RawTree) : Type 0 where
  pub few : length (rows_at d t.0) < 4096
  pub key_fits : key < 2 ^ t.1.key
  pub term_within : IsWithinTree (vocabulary_in d.semantics) term

abbrev pub IsWithinLimits : RowsOf → Item → Type 0
IsWithinLimits d (item.Row table key term) = (t : TableId × Table) → IsTableOf d table t → IsRowWithin d t key term
IsWithinLimits d _ = ⊤

-- what an item says: a row of a table, whose term is a ground term
pub record SaysRow (d : RowsOf) (table : List ℕ) (key : ℕ) (term : RawTree) (t : TableId × Table) (r : Row) : Type 0 where
  pub is_table : IsTableOf d table t
  pub same_key : r.key ≡ key
  pub reads : ground_of (vocabulary_in d.semantics) term ≡ Some r.term

-- the term is of the table's sort
pub record HasSorts (d : RowsOf) (table : List ℕ) (key : ℕ) (term : RawTree) : Type 0 where
  pub t : TableId × Table
  pub r : Row
  pub says : SaysRow d table key term t r
  pub sorted : IsTreeOf d.semantics.cons t.1.sort r.term

abbrev pub IsSorted : RowsOf → Item → Type 0
IsSorted d (item.Row table key term) = HasSorts d table key term
IsSorted d _ = ⊤

-- no earlier row of the table has the key
abbrev pub IsNewKey : RowsOf → Item → Type 0
IsNewKey d (item.Row table key term) = (t : TableId × Table) → IsTableOf d table t → IsFalse (list_any (λ r. r.key == key) (rows_at d t.0))
IsNewKey d _ = ⊤

-- an item of a program
abbrev pub IsRowItem : Item → Type 0
IsRowItem (item.Row table key term) = ⊤
IsRowItem _ = ⊥

-- the check of an item for each kind of fault, behind others that make d
abbrev pub Passes : ItemFault → RowsOf → Item → Type 0
Passes Shape d i = IsRowItem i
Passes Name d i = HasNames d i
Passes Limit d i = IsWithinLimits d i
Passes Sort d i = IsSorted d i
Passes Unbound d i = ⊤
Passes DoubleKey d i = IsNewKey d i
Passes Undetermined d i = ⊤

-- with a row behind others that make d they make e
pub record AddsRow (d : RowsOf) (table : List ℕ) (key : ℕ) (term : RawTree) (e : RowsOf) : Type 0 where
  pub t : TableId × Table
  pub r : Row
  pub says : SaysRow d table key term t r
  pub is : e ≡ with_row d t.0 r

abbrev pub Adds : RowsOf → Item → RowsOf → Type 0
Adds d (item.Row table key term) e = AddsRow d table key term e
Adds d _ e = ⊥

-- the loading of a program, which lacks nothing as it is
abbrev pub program_loading : Loading RowsOf
program_loading = record { kind = file.Program; Passes = Passes; Adds = Adds; lacking = λ d. None }
