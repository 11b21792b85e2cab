-- The first form of a text that has the shape of no item.
use Rattle.std.specs.Prelude.{◌≡◌, ◌<◌, ◌+◌, ℕ, List, [], take, slice_get, length, Some, ⊤}
use Rattle.sexp_text.specs.declared.form.Form.{Form}
use Rattle.sexp_text.specs.Printed.{without_spans}
use Rattle.rule_text.specs.Writes.{WritesItem, AreWritten}
use Rattle.rule_text.specs.declared.item.FileKind.{FileKind}
use Rattle.rule_text.specs.declared.item.FileKind.TheVariants.{Start}
use Rattle.rule_text.specs.declared.item.Item.{Item}
use Rattle.rule_text.specs.declared.error.ItemFault.TheVariants as fault
use Rattle.rule_text.specs.declared.error.ItemError.{ItemError}
use Rattle.rule_text.specs.declared.error.ItemError.TheVariants as item_error
use Rattle.rule_text.specs.declared.error.LoadFault.TheVariants as load_fault
use Rattle.rule_text.specs.declared.error.LoadError.{LoadError}
use Rattle.rule_text.specs.declared.error.LoadError.TheVariants as load_error

-- a form was refused since it is written of no item, or there was no memory
abbrev pub IsShapeError : FileKind → Form → ItemError → Type 0
IsShapeError kind form (item_error.Fault fault.Shape) = (i : Item) → ¬ WritesItem kind form i
IsShapeError kind form (item_error.Fault _) = ⊥
IsShapeError kind form item_error.NoMemory = ⊤

-- The first form of no shape, counted from 0: the forms before it are written of items, and it is not; or it is the second
-- of a start text, which has one item alone, or that item is missing.
pub data IsMisfit (kind : FileKind) (forms : List Form) : ℕ → Type 0 where
  no_item : (place : ℕ) (items : List Item) (form : Form) → AreWritten kind (take place forms) items → slice_get forms place ≡ Some form → ((i : Item) → ¬ WritesItem kind (without_spans form) i) → (kind ≡ Start → place ≡ 0) → IsMisfit kind forms place
  second : (items : List Item) → kind ≡ Start → AreWritten kind (take 1 forms) items → 1 < length forms → IsMisfit kind forms 1
  missing : kind ≡ Start → forms ≡ [] → IsMisfit kind forms 0

-- a text was refused at its first form of no shape, items counted from 1, or there was no memory
abbrev pub IsItemsError : FileKind → List Form → LoadError → Type 0
IsItemsError kind forms (load_error.Fault (load_fault.Shape k)) = (place : ℕ) × (k ≡ place + 1) × IsMisfit kind forms place
IsItemsError kind forms (load_error.Fault _) = ⊥
IsItemsError kind forms load_error.NoMemory = ⊤
