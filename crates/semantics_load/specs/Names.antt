-- Which items of a semantics name only what is known, and give new names.
use Rattle.std.specs.Prelude.{◌≡◌, ℕ, IsTrue, IsSome, List, map, All, Option, Some, None, ⊤}
use Rattle.rule_text.specs.declared.item.RawVar.{RawVar}
use Rattle.rule_text.specs.declared.item.RawTree.{RawTree}
use Rattle.rule_text.specs.declared.item.RawDemand.{RawDemand}
use Rattle.rule_text.specs.declared.item.RawDemand.TheVariants as written
use Rattle.rule_text.specs.declared.item.Item.{Item}
use Rattle.rule_text.specs.declared.item.Item.TheVariants as item
use Rattle.sort_term.specs.Names.{IsFree}
use Rattle.name_resolution.specs.Names.{IsNew}
use Rattle.name_resolution.specs.Known.{Vocabulary, declared_sort, table_of}
use Rattle.name_resolution.specs.Named.{is_named_tree, is_named_sort}
use Rattle.name_resolution.specs.Variables.{names_of, AreVarsNamed}
use Rattle.semantics_load.specs.Declaring.{Declared, known_in}
use Rattle.semantics_load.specs.Pieces.{names_in}
use Rattle.semantics_load.specs.declared.piece.Piece.{Piece}
use Rattle.semantics_load.specs.declared.piece.Piece.TheVariants as piece

-- a name for one thing more: no reserved word, and none of these
pub record IsFreshName (name : List ℕ) (names : List (List ℕ)) : Type 0 where
  pub free : IsFree name
  pub new : IsNew name names

-- a demand of a rule names only what is known
abbrev pub IsDemandNamed : Vocabulary → List (List ℕ) → RawDemand → Type 0
IsDemandNamed known vars (written.Let p e) = IsTrue (is_named_tree known vars p) × IsTrue (is_named_tree known vars e)
IsDemandNamed known vars (written.LetRow p table key) = IsTrue (is_named_tree known vars p) × IsSome (table_of known table) × IsTrue (is_named_tree known vars key)
IsDemandNamed known vars (written.When e) = IsTrue (is_named_tree known vars e)

-- the parts of a rule name only what is known
pub record IsRuleNamed (known : Vocabulary) (vars : List RawVar) (head : RawTree) (demands : List RawDemand) (outcome : RawTree) : Type 0 where
  pub vars_named : AreVarsNamed known vars
  pub head_named : IsTrue (is_named_tree known (names_of vars) head)
  pub demands_named : All (IsDemandNamed known (names_of vars)) demands
  pub outcome_named : IsTrue (is_named_tree known (names_of vars) outcome)

-- an item names only what items before it declare, and gives a name that none of its kind has; the sort of the states is told
-- once, and rules come behind it
abbrev pub HasNames : Declared → Item → Type 0
HasNames d (item.Sort name) = IsFreshName name d.sorts
HasNames d (item.Con name args sort) = IsFreshName name (map (λ c. c.name) d.cons) × All (λ a. IsTrue (is_named_sort (known_in d) a)) args × IsSome (declared_sort (known_in d) sort)
HasNames d (item.Table name key sort) = IsFreshName name (map (λ t. t.name) d.tables) × IsTrue (is_named_sort (known_in d) sort)
HasNames d (item.Config name) = (d.config ≡ None) × IsSome (declared_sort (known_in d) name)
HasNames d (item.Rule name vars head demands outcome) = IsSome d.config × IsNew name (map (λ r. r.name) d.rules) × IsRuleNamed (known_in d) vars head demands outcome
HasNames d _ = ⊤

-- the names of an item's variables, where the item has its names; none where it has not
abbrev pub IsNamesIn : Declared → Item → Option (List (List ℕ)) → Type 0
IsNamesIn d i (Some names) = HasNames d i × (names ≡ names_in i)
IsNamesIn d i None = ¬ HasNames d i

-- what an item says has a name that none of its kind has
abbrev pub IsPieceNew : Declared → Piece → Type 0
IsPieceNew d (piece.Sort name) = IsNew name d.sorts
IsPieceNew d (piece.Con c) = IsNew c.name (map (λ other. other.name) d.cons)
IsPieceNew d (piece.Table t) = IsNew t.name (map (λ other. other.name) d.tables)
IsPieceNew d (piece.Config a) = ⊤
IsPieceNew d (piece.Rule r) = IsNew r.name (map (λ other. other.name) d.rules)
