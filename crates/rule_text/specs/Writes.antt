-- Which raw items forms write.
use Rattle.std.specs.Prelude.{◌≡◌, List, ℕ, [], ◌∷◌, ◌++◌, ◌⊎◌, map, take, length, ◌≤◌, ◌-◌, All, IsTrue, IsFalse, codes}
use Rattle.std.specs.List.{AllPass}
use Rattle.sexp_text.specs.Printed.{without_spans}
use Rattle.sexp_text.specs.declared.form.Form.{Form}
use Rattle.rule_text.specs.Written.{written_sort, written_var, written_vars, written_tree, written_when, written_demand, front_word, item_parts, written_item}
use Rattle.sort_term.specs.Names.{is_reserved_word}
use Rattle.rule_text.specs.Operators.{is_operator}
use Rattle.rule_text.specs.Lawful.{has_operators, is_lawful_tree, IsSort, AreVariables, IsExpression, IsDemand, IsItemOf}
use Rattle.rule_text.specs.Plain.{plain_word, plain_number, plain_list}
use Rattle.rule_text.specs.declared.tree.Place.{Place}
use Rattle.rule_text.specs.declared.tree.Place.TheVariants.{Pattern, Expression}
use Rattle.rule_text.specs.declared.item.RawSort.{RawSort}
use Rattle.rule_text.specs.declared.item.RawVar.{RawVar}
use Rattle.rule_text.specs.declared.item.RawTree.{RawTree}
use Rattle.rule_text.specs.declared.item.RawDemand.{RawDemand}
use Rattle.rule_text.specs.declared.item.FileKind.{FileKind}
use Rattle.rule_text.specs.declared.item.FileKind.TheVariants.{Start}
use Rattle.rule_text.specs.declared.item.Item.{Item}

-- a form without spans is what is written of this sort
pub record WritesSort (form : Form) (sort : RawSort) : Type 0 where
  pub spelled : form ≡ written_sort sort
  pub lawful : IsSort sort

-- a form without spans is what is written of these sorts in a list
pub record WritesSorts (form : Form) (sorts : List RawSort) : Type 0 where
  pub spelled : form ≡ plain_list (map written_sort sorts)
  pub lawful : All IsSort sorts

-- a form without spans is what is written of this variable
pub record WritesVar (form : Form) (var : RawVar) : Type 0 where
  pub spelled : form ≡ written_var var
  pub lawful : IsSort var.sort

-- a form without spans is what is written of these variables
pub record WritesVars (form : Form) (vars : List RawVar) : Type 0 where
  pub spelled : form ≡ written_vars vars
  pub lawful : AreVariables vars

-- a form without spans is what is written of this tree, which may stand in this place
pub record WritesTree (place : Place) (form : Form) (tree : RawTree) : Type 0 where
  pub spelled : form ≡ written_tree tree
  pub lawful : IsTrue (is_lawful_tree place tree)

-- a word may stand in front of so many numbers and arguments: a constructor's name where no number is, or an operator's
abbrev pub IsHead : Place → List ℕ → ℕ → ℕ → Type 0
IsHead place name numbers arguments = (IsFalse (is_reserved_word name) × (numbers ≡ 0)) ⊎ (IsTrue (has_operators place) × IsTrue (is_operator name numbers arguments))

-- forms without spans are what is written of these trees, which may stand in this place
pub record WritesTrees (place : Place) (forms : List Form) (trees : List RawTree) : Type 0 where
  pub spelled : forms ≡ map written_tree trees
  pub lawful : AllPass (is_lawful_tree place) trees

-- A form and the first ones behind it are what is written, but for spans, of a name and its numbers. The others may be as
-- many as its arguments.
pub record WritesFront (place : Place) (front : Form) (rest : List Form) (named : List ℕ × List ℕ) : Type 0 where
  pub name : without_spans front ≡ plain_word named.0
  pub within : length named.1 ≤ length rest
  pub numbers : map without_spans (take (length named.1) rest) ≡ map plain_number named.1
  pub head : IsHead place named.0 (length named.1) (length rest - length named.1)

-- a form without spans is what is written of this condition
pub record WritesWhen (form : Form) (condition : RawTree) : Type 0 where
  pub spelled : form ≡ written_when condition
  pub lawful : IsExpression condition

-- forms without spans are what is written of these conditions
pub record WritesWhens (forms : List Form) (whens : List RawTree) : Type 0 where
  pub spelled : forms ≡ map written_when whens
  pub lawful : All IsExpression whens

-- forms without spans are the table and the key of a row
pub record WritesRow (forms : List Form) (row : List ℕ × RawTree) : Type 0 where
  pub spelled : forms ≡ plain_word row.0 ∷ written_tree row.1 ∷ []
  pub lawful : IsExpression row.1

-- a form without spans is what is written of this demand of a rule
pub record WritesDemand (form : Form) (demand : RawDemand) : Type 0 where
  pub spelled : form ≡ written_demand demand
  pub lawful : IsDemand demand

-- forms without spans are what is written of these demands
pub record WritesDemands (forms : List Form) (demands : List RawDemand) : Type 0 where
  pub spelled : forms ≡ map written_demand demands
  pub lawful : All IsDemand demands

-- the forms behind a rule's head, without spans, are what is written of these demands and this result
pub record WritesOutcome (forms : List Form) (demands : List RawDemand) (outcome : RawTree) : Type 0 where
  pub spelled : forms ≡ map written_demand demands ++ plain_word (codes "=>") ∷ written_tree outcome ∷ []
  pub lawful_demands : All IsDemand demands
  pub lawful_outcome : IsExpression outcome

-- two forms without spans are what is written of this name and these variables
pub record WritesOpening (name vars : Form) (opening : List ℕ × List RawVar) : Type 0 where
  pub named : name ≡ plain_word opening.0
  pub over : WritesVars vars opening.1

-- forms without spans are what is written of a tree, which may stand in this place, and of the conditions behind it
pub record WritesGuarded (place : Place) (form : Form) (rest : List Form) (guarded : RawTree × List RawTree) : Type 0 where
  pub guards : WritesTree place form guarded.0
  pub whens : WritesWhens rest guarded.1

-- forms without spans are what is written of the head, the demands and the result of a rule
pub record WritesRuleBody (front : Form) (rest : List Form) (body : RawTree × (List RawDemand × RawTree)) : Type 0 where
  pub head : WritesTree Pattern front body.0
  pub end : WritesOutcome rest body.1.0 body.1.1

-- forms without spans are what is written of the terms and the conditions of a point
pub record WritesPointBody (left right : Form) (rest : List Form) (body : RawTree × (RawTree × List RawTree)) : Type 0 where
  pub first : WritesTree Expression left body.0
  pub second : WritesGuarded Expression right rest body.1

-- a word and the forms behind it, without spans, are what is written of this item of a kind of text
pub record WritesParts (kind : FileKind) (front : List ℕ) (parts : List Form) (i : Item) : Type 0 where
  pub word : front_word i ≡ front
  pub spelled : parts ≡ item_parts i
  pub lawful : IsItemOf kind i

-- a form without spans is what is written of this item of a kind of text
pub record WritesItem (kind : FileKind) (form : Form) (i : Item) : Type 0 where
  pub spelled : form ≡ written_item i
  pub lawful : IsItemOf kind i

-- forms, but for their spans, are what is written of these items of a kind of text, one a form
pub record AreWritten (kind : FileKind) (forms : List Form) (items : List Item) : Type 0 where
  pub spelled : map without_spans forms ≡ map written_item items
  pub lawful : All (IsItemOf kind) items

-- the forms of a text of this kind are what is written of these items; a start text has one alone
pub record WritesItems (kind : FileKind) (forms : List Form) (items : List Item) : Type 0 where
  pub written : AreWritten kind forms items
  pub one : kind ≡ Start → length items ≡ 1
