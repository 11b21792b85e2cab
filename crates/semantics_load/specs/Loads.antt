-- How the items of a semantics act, one after the other.
use Rattle.std.specs.Prelude.{◌≡◌, Option, Some, None, ⊤}
use Rattle.rule_text.specs.Faults.{Loading}
use Rattle.rule_text.specs.declared.item.FileKind.TheVariants as file
use Rattle.rule_text.specs.declared.item.Item.{Item}
use Rattle.rule_text.specs.declared.item.Item.TheVariants as item
use Rattle.rule_text.specs.declared.error.ItemFault.{ItemFault}
use Rattle.rule_text.specs.declared.error.ItemFault.TheVariants.{Shape, Name, Limit, Sort, Unbound, DoubleKey, Undetermined}
use Rattle.rule_text.specs.declared.error.LoadFault.{LoadFault}
use Rattle.rule_text.specs.declared.error.LoadFault.TheVariants.{NoConfig}
use Rattle.sort_term.specs.declared.ids.SortId.{SortId}
use Rattle.semantics_load.specs.declared.piece.Piece.{Piece}
use Rattle.semantics_load.specs.Declaring.{Declared}
use Rattle.semantics_load.specs.Pieces.{piece_of, with_piece}
use Rattle.semantics_load.specs.Names.{HasNames}
use Rattle.semantics_load.specs.Limits.{IsWithinLimits}
use Rattle.semantics_load.specs.Sorts.{HasSorts, BindsAll}

-- an item of a semantics
abbrev pub IsSemanticsItem : Item → Type 0
IsSemanticsItem (item.Sort name) = ⊤
IsSemanticsItem (item.Con name args sort) = ⊤
IsSemanticsItem (item.Table name key sort) = ⊤
IsSemanticsItem (item.Config name) = ⊤
IsSemanticsItem (item.Rule name vars head demands outcome) = ⊤
IsSemanticsItem _ = ⊥

-- the check of an item for each kind of fault, behind others that declare d
abbrev pub Passes : ItemFault → Declared → Item → Type 0
Passes Shape d i = IsSemanticsItem i
Passes Name d i = HasNames d i
Passes Limit d i = IsWithinLimits d i
Passes Sort d i = HasSorts d i
Passes Unbound d i = BindsAll d i
Passes DoubleKey d i = ⊤
Passes Undetermined d i = ⊤

-- with an item behind others that declare d they declare e
pub record Adds (d : Declared) (i : Item) (e : Declared) : Type 0 where
  pub piece : Piece
  pub says : piece_of d i ≡ Some piece
  pub is : e ≡ with_piece d piece

-- the sort of the states is told
abbrev pub lacking_config : Option SortId → Option LoadFault
lacking_config None = Some NoConfig
lacking_config (Some a) = None

-- the loading of a semantics
abbrev pub semantics_loading : Loading Declared
semantics_loading = record { kind = file.Semantics; Passes = Passes; Adds = Adds; lacking = λ d. lacking_config d.config }
