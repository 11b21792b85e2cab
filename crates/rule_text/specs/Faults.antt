-- The value and the first fault of a text whose items act one after the other.
use Rattle.std.specs.Prelude.{◌≡◌, ◌<◌, ◌+◌, ℕ, List, map, take, slice_get, Option, Some, None, ⊤}
use Rattle.sexp_text.specs.declared.form.Form.{Form}
use Rattle.sexp_text.specs.declared.fault.TextFault.{TextFault}
use Rattle.sexp_text.specs.declared.fault.ReadError.{ReadError}
use Rattle.sexp_text.specs.declared.fault.ReadError.TheVariants as read
use Rattle.sexp_text.specs.Faults.{IsFirstFault}
use Rattle.sexp_text.specs.Printed.{without_spans}
use Rattle.sexp_text.specs.Text.{IsText}
use Rattle.rule_text.specs.Turns.{InTurn}
use Rattle.rule_text.specs.Writes.{WritesItem}
use Rattle.rule_text.specs.declared.item.FileKind.{FileKind}
use Rattle.rule_text.specs.declared.item.Item.{Item}
use Rattle.rule_text.specs.declared.error.ItemFault.{ItemFault}
use Rattle.rule_text.specs.declared.error.ItemFault.TheVariants.{Shape, Name, Limit, Sort, Unbound, DoubleKey, Undetermined}
use Rattle.rule_text.specs.declared.error.ItemError.{ItemError}
use Rattle.rule_text.specs.declared.error.ItemError.TheVariants.{Fault, NoMemory}
use Rattle.rule_text.specs.declared.error.LoadFault.{LoadFault}
use Rattle.rule_text.specs.declared.error.LoadFault.TheVariants as load
use Rattle.rule_text.specs.declared.error.LoadError.{LoadError}
use Rattle.rule_text.specs.declared.error.LoadError.TheVariants as error

-- the place of a kind of fault in the order: of several faults of an item the lowest counts
abbrev pub number_of : ItemFault → ℕ
number_of Shape = 2
number_of Name = 3
number_of Limit = 4
number_of Sort = 5
number_of Unbound = 6
number_of DoubleKey = 8
number_of Undetermined = 9

-- the fault of a text whose item with this number has this fault
abbrev pub fault_in : ItemFault → ℕ → LoadFault
fault_in Shape k = load.Shape k
fault_in Name k = load.Name k
fault_in Limit k = load.Limit k
fault_in Sort k = load.Sort k
fault_in Unbound k = load.Unbound k
fault_in DoubleKey k = load.DoubleKey k
fault_in Undetermined k = load.Undetermined k

-- the error of a text whose item with this number was refused so
abbrev pub error_in : ItemError → ℕ → LoadError
error_in (Fault fault) k = error.Fault (fault_in fault k)
error_in NoMemory k = error.NoMemory

-- the error of a text that was not read
abbrev pub error_of_text : ReadError → LoadError
error_of_text (read.Text fault) = error.Fault (load.Text fault)
error_of_text read.NoMemory = error.NoMemory

-- How the items of a kind of text act: which checks an item passes behind others, one for each kind of fault, what it makes
-- of what those before it made, and what the whole lacks.
pub record Loading (D : Type 0) : Type 1 where
  pub kind : FileKind
  pub Passes : ItemFault → D → Item → Type 0
  pub Adds : D → Item → D → Type 0
  pub lacking : D → Option LoadFault

-- what an item adds is determined
abbrev pub AddsOne : {D : Type 0} → Loading D → Type 0
AddsOne {D} l = (d : D) (item : Item) (e f : D) → l.Adds d item e → l.Adds d item f → e ≡ f

module _ {D : Type 0} (l : Loading D) where
  -- behind d the item passes each check with a lower number, and not this one
  pub record IsFirstIn (d : D) (item : Item) (fault : ItemFault) : Type 0 where
    pub lower : (other : ItemFault) → number_of other < number_of fault → l.Passes other d item
    pub fails : ¬ l.Passes fault d item

  -- behind d the item passes all checks
  abbrev pub IsLawfulIn : D → Item → Type 0
  IsLawfulIn d item = (fault : ItemFault) → l.Passes fault d item

  -- behind d the item passes all checks, and with it they make e
  pub record TakesItem (d : D) (item : Item) (e : D) : Type 0 where
    pub lawful : IsLawfulIn d item
    pub adds : l.Adds d item e

  -- an item was refused for its first fault, or there was no memory
  abbrev pub IsItemError : D → Item → ItemError → Type 0
  IsItemError d item (Fault fault) = IsFirstIn d item fault
  IsItemError d item NoMemory = ⊤

  -- a form, without spans, is that of an item that those before take
  pub record TakesForm (d : D) (form : Form) (e : D) : Type 0 where
    pub item : Item
    pub written : WritesItem l.kind form item
    pub takes : TakesItem d item e

  -- the first fault of a form, without spans, behind d: it is that of no item, or that of an item with this fault first
  pub data IsFormFault (d : D) (form : Form) : ItemFault → Type 0 where
    no_item : ((item : Item) → ¬ WritesItem l.kind form item) → IsFormFault d form Shape
    of_item : (item : Item) (fault : ItemFault) → WritesItem l.kind form item → IsFirstIn d item fault → IsFormFault d form fault

  -- a form, without spans, was refused for its first fault, or there was no memory
  abbrev pub IsFormError : D → Form → ItemError → Type 0
  IsFormError d form (Fault fault) = IsFormFault d form fault
  IsFormError d form NoMemory = ⊤

module _ {D : Type 0} (l : Loading D) (start : D) where
  -- the forms, each after those before it, make d from the start on
  abbrev pub AreTaken : List Form → D → Type 0
  AreTaken forms d = InTurn (TakesForm l) start (map without_spans forms) d

  -- the forms before this place are taken, and the one there has this fault first
  pub record IsFaultAt (forms : List Form) (place : ℕ) (fault : ItemFault) : Type 0 where
    pub before : D
    pub taken : AreTaken (take place forms) before
    pub form : Form
    pub there : slice_get forms place ≡ Some form
    pub has : IsFormFault l before (without_spans form) fault

  -- the forms were refused for the first one with a fault, counted from 1, or there was no memory
  abbrev pub IsFaultyAt : List Form → LoadError → Type 0
  IsFaultyAt forms (error.Fault found) = (place : ℕ) × (fault : ItemFault) × (found ≡ fault_in fault (place + 1)) × IsFaultAt forms place fault
  IsFaultyAt forms error.NoMemory = ⊤

  -- the text is that of items that make d
  pub record IsTextOf (bytes : List ℕ) (d : D) : Type 0 where
    pub forms : List Form
    pub text : IsText bytes forms
    pub taken : AreTaken forms d

  -- the text is that of items that make d, of which nothing lacks
  pub record IsWholeText (bytes : List ℕ) (d : D) : Type 0 where
    pub text : IsTextOf bytes d
    pub whole : l.lacking d ≡ None

  -- The first fault of a text: that of its bytes; else that of the first item with a fault, items counted from 1; else what
  -- the whole lacks.
  pub data IsFaultOf (bytes : List ℕ) : LoadFault → Type 0 where
    in_bytes : (fault : TextFault) → IsFirstFault bytes fault → IsFaultOf bytes (load.Text fault)
    in_item : (forms : List Form) (place : ℕ) (fault : ItemFault) → IsText bytes forms → IsFaultAt forms place fault → IsFaultOf bytes (fault_in fault (place + 1))
    in_whole : (d : D) (fault : LoadFault) → IsTextOf bytes d → l.lacking d ≡ Some fault → IsFaultOf bytes fault

  -- a text was refused for its first fault, or there was no memory
  abbrev pub IsLoadError : List ℕ → LoadError → Type 0
  IsLoadError bytes (error.Fault fault) = IsFaultOf bytes fault
  IsLoadError bytes error.NoMemory = ⊤
