-- What the one item of a start text makes.
use Rattle.std.specs.Prelude.{◌≡◌, IsTrue, [], Option, Some, None, refl, ⊤}
use Rattle.std.specs.Coded.{Coded, code_by, coded×, coded_option}
use Rattle.rule_text.specs.Faults.{Loading}
use Rattle.rule_text.specs.declared.error.ItemFault.{ItemFault}
use Rattle.rule_text.specs.declared.error.ItemFault.TheVariants.{Shape, Name, Limit, Sort, Unbound, DoubleKey, Undetermined}
use Rattle.rule_text.specs.declared.error.LoadFault.{LoadFault}
use Rattle.rule_text.specs.declared.error.LoadFault.TheVariants as load
use Rattle.rule_text.specs.declared.item.FileKind.TheVariants as file
use Rattle.rule_text.specs.declared.item.Item.{Item}
use Rattle.rule_text.specs.declared.item.Item.TheVariants as item
use Rattle.sort_term.specs.declared.term.Sort.TheVariants.{Own}
use Rattle.sort_term.specs.contracts.term.Term as term
use Rattle.data_value.specs.contracts.Value as value
use Rattle.sort_term.specs.Sorted.{IsTreeOf}
use Rattle.sort_term.specs.System.{System, system_code}
use Rattle.sort_term.specs.Tree.{Tree}
use Rattle.name_resolution.specs.Known.{vocabulary_in}
use Rattle.name_resolution.specs.Named.{is_named_tree}
use Rattle.name_resolution.specs.Within.{IsWithinTree}
use Rattle.name_resolution.specs.Reads.{ground_of}

-- a semantics, and the tree of its configuration sort if it is told
pub record StartOf : Type 0 where
  pub semantics : System
  pub tree : Option Tree

-- how a proof tells two of these apart: by their parts
abbrev pub start_code : Coded StartOf
start_code =
    code_by (System × Option Tree)
    (coded× system_code (coded_option (term.the_row value.the_row).coded))
    (λ d. (d.semantics, d.tree))
    (λ p. record { semantics = p.0; tree = p.1 })
    (λ _. refl)

-- before the first item it is not told
abbrev pub no_start : System → StartOf
no_start s = record { semantics = s; tree = None }

-- the ground term that an item writes
abbrev pub SaysTree : System → Item → Tree → Type 0
SaysTree s (item.Start raw) t = ground_of (vocabulary_in s) raw ≡ Some t
SaysTree s _ t = ⊥

-- an item writes a tree of the configuration sort
pub record HasSorts (s : System) (i : Item) : Type 0 where
  pub tree : Tree
  pub says : SaysTree s i tree
  pub sorted : IsTreeOf s.cons (Own s.config) tree

-- the item of a start text is the first one
abbrev pub IsStartItem : StartOf → Item → Type 0
IsStartItem d (item.Start raw) = d.tree ≡ None
IsStartItem d _ = ⊥

-- the term names constructors of the semantics, and nothing else
abbrev pub HasNames : System → Item → Type 0
HasNames s (item.Start raw) = IsTrue (is_named_tree (vocabulary_in s) [] raw)
HasNames s _ = ⊤

-- the term keeps the limits
abbrev pub IsWithinLimits : System → Item → Type 0
IsWithinLimits s (item.Start raw) = IsWithinTree (vocabulary_in s) raw
IsWithinLimits s _ = ⊤

-- the check of an item for each kind of fault, behind others that make d
abbrev pub Passes : ItemFault → StartOf → Item → Type 0
Passes Shape d i = IsStartItem d i
Passes Name d i = HasNames d.semantics i
Passes Limit d i = IsWithinLimits d.semantics i
Passes Sort d i = HasSorts d.semantics i
Passes Unbound d i = ⊤
Passes DoubleKey d i = ⊤
Passes Undetermined d i = ⊤

-- with the item the tree is told
pub record Adds (d : StartOf) (i : Item) (e : StartOf) : Type 0 where
  pub tree : Tree
  pub says : SaysTree d.semantics i tree
  pub is : e ≡ record { semantics = d.semantics; tree = Some tree }

-- a start text without items has the fault of shape in item 1
abbrev pub lacking_tree : Option Tree → Option LoadFault
lacking_tree None = Some (load.Shape 1)
lacking_tree (Some t) = None

-- the loading of a start text
abbrev pub start_loading : Loading StartOf
start_loading = record { kind = file.Start; Passes = Passes; Adds = Adds; lacking = λ d. lacking_tree d.tree }
