-- What the language demands of raw items beside how they are written.
use Rattle.std.specs.Prelude.{⊤, List, Bool, true, false, not, ◌&&◌, IsTrue, All, length, codes, bytes_eq}
use Rattle.std.specs.List.{list_all}
use Rattle.sort_term.specs.Names.{is_reserved_word}
use Rattle.rule_text.specs.Operators.{is_operator}
use Rattle.rule_text.specs.declared.tree.Place.{Place}
use Rattle.rule_text.specs.declared.tree.Place.TheVariants.{Pattern, Expression, Ground}
use Rattle.rule_text.specs.declared.item.RawSort.{RawSort}
use Rattle.rule_text.specs.declared.item.RawSort.TheVariants as sort
use Rattle.rule_text.specs.declared.item.RawVar.{RawVar}
use Rattle.rule_text.specs.declared.item.RawTree.{RawTree, RawTree-F, fold-RawTree}
use Rattle.rule_text.specs.declared.item.RawDemand.{RawDemand}
use Rattle.rule_text.specs.declared.item.RawDemand.TheVariants as demand
use Rattle.rule_text.specs.declared.item.FileKind.{FileKind}
use Rattle.rule_text.specs.declared.item.FileKind.TheVariants as file
use Rattle.rule_text.specs.declared.item.Item.{Item}
use Rattle.rule_text.specs.declared.item.Item.TheVariants as item

-- a named sort is not `bool`, which is a sort of its own
abbrev pub is_lawful_sort : RawSort → Bool
is_lawful_sort (sort.Named name) = not (bytes_eq name (codes "bool"))
is_lawful_sort _ = true

abbrev pub IsSort : RawSort → Type 0
IsSort raw = IsTrue (is_lawful_sort raw)

-- variables with lawful sorts
abbrev pub AreVariables : List RawVar → Type 0
AreVariables vars = All (λ x. IsSort x.sort) vars

-- whether a literal of a map may stand in a place: no pattern has one
abbrev pub has_maps : Place → Bool
has_maps Pattern = false
has_maps Expression = true
has_maps Ground = true

-- whether an operator may stand in a place: only expressions have them
abbrev pub has_operators : Place → Bool
has_operators Pattern = false
has_operators Expression = true
has_operators Ground = false

-- A tree by its kind, whose arguments are told to be lawful or not: a variable and a constructor have names that aren't
-- reserved, and an operator has its numbers and arguments.
abbrev pub is_lawful_node : Place → RawTree-F Bool → Bool
is_lawful_node place (RawTree-F.Word name) = not (is_reserved_word name)
is_lawful_node place (RawTree-F.Number n) = true
is_lawful_node place (RawTree-F.Flag flag) = true
is_lawful_node place (RawTree-F.Bits width n) = true
is_lawful_node place (RawTree-F.Map key word entries) = has_maps place
is_lawful_node place (RawTree-F.Con name args) = not (is_reserved_word name) && list_all (λ arg. arg) args
is_lawful_node place (RawTree-F.Op name numbers args) = has_operators place && (is_operator name (length numbers) (length args) && list_all (λ arg. arg) args)

-- whether a tree may stand in this place
abbrev pub is_lawful_tree : Place → RawTree → Bool
is_lawful_tree place = fold-RawTree Bool (is_lawful_node place)

-- a pattern
abbrev pub IsPattern : RawTree → Type 0
IsPattern tree = IsTrue (is_lawful_tree Pattern tree)

-- an expression
abbrev pub IsExpression : RawTree → Type 0
IsExpression tree = IsTrue (is_lawful_tree Expression tree)

-- a ground term
abbrev pub IsGround : RawTree → Type 0
IsGround tree = IsTrue (is_lawful_tree Ground tree)

-- a demand of a rule
abbrev pub IsDemand : RawDemand → Type 0
IsDemand (demand.Let pattern source) = IsPattern pattern × IsExpression source
IsDemand (demand.LetRow pattern table key) = IsPattern pattern × IsExpression key
IsDemand (demand.When condition) = IsExpression condition

-- an item that may stand in this kind of text
abbrev pub IsItemOf : FileKind → Item → Type 0
IsItemOf file.Semantics (item.Sort name) = ⊤
IsItemOf file.Semantics (item.Con name args sort) = All IsSort args
IsItemOf file.Semantics (item.Table name key sort) = IsSort sort
IsItemOf file.Semantics (item.Config name) = ⊤
IsItemOf file.Semantics (item.Rule name vars head demands outcome) = AreVariables vars × IsPattern head × All IsDemand demands × IsExpression outcome
IsItemOf file.Program (item.Row table key term) = IsGround term
IsItemOf file.Points (item.Cut left name vars pattern whens) = AreVariables vars × IsPattern pattern × All IsExpression whens
IsItemOf file.Points (item.Point name vars left right whens) = AreVariables vars × IsExpression left × IsExpression right × All IsExpression whens
IsItemOf file.Start (item.Start tree) = IsGround tree
IsItemOf kind i = ⊥
