-- Which items of a semantics keep the limits.
use Rattle.std.specs.Prelude.{◌<◌, ◌≤◌, Bool, true, false, IsTrue, List, length, count_by, All, ⊤}
use Rattle.data_value.specs.Sorts.{IsWidth}
use Rattle.rule_text.specs.declared.item.RawVar.{RawVar}
use Rattle.rule_text.specs.declared.item.RawTree.{RawTree}
use Rattle.rule_text.specs.declared.item.RawDemand.{RawDemand}
use Rattle.rule_text.specs.declared.item.RawDemand.TheVariants as written
use Rattle.rule_text.specs.declared.item.Item.{Item}
use Rattle.rule_text.specs.declared.item.Item.TheVariants as item
use Rattle.name_resolution.specs.Known.{Vocabulary}
use Rattle.name_resolution.specs.Within.{IsWithinTree, is_within_sort}
use Rattle.name_resolution.specs.Variables.{AreVarsWithin}
use Rattle.semantics_load.specs.Declaring.{Declared, known_in}

-- whether a demand is a condition
abbrev pub is_condition : RawDemand → Bool
is_condition (written.Let p e) = false
is_condition (written.LetRow p table key) = false
is_condition (written.When e) = true

-- whether a demand is a `let`
abbrev pub is_let : RawDemand → Bool
is_let (written.Let p e) = true
is_let (written.LetRow p table key) = true
is_let (written.When e) = false

-- the terms of a demand keep the limits
abbrev pub IsDemandWithin : Vocabulary → RawDemand → Type 0
IsDemandWithin known (written.Let p e) = IsWithinTree known p × IsWithinTree known e
IsDemandWithin known (written.LetRow p table key) = IsWithinTree known p × IsWithinTree known key
IsDemandWithin known (written.When e) = IsWithinTree known e

-- the parts of a rule keep the limits: at most 16 `let`s and 16 conditions
pub record IsRuleWithin (known : Vocabulary) (vars : List RawVar) (head : RawTree) (demands : List RawDemand) (outcome : RawTree) : Type 0 where
  pub vars_within : AreVarsWithin vars
  pub lets : count_by is_let demands ≤ 16
  pub whens : count_by is_condition demands ≤ 16
  pub head_within : IsWithinTree known head
  pub demands_within : All (IsDemandWithin known) demands
  pub outcome_within : IsWithinTree known outcome

-- an item is not one thing too many, and its widths, numbers and terms keep their limits
abbrev pub IsWithinLimits : Declared → Item → Type 0
IsWithinLimits d (item.Sort name) = length d.sorts < 64
IsWithinLimits d (item.Con name args sort) = (length d.cons < 256) × (length args ≤ 16) × All (λ a. IsTrue (is_within_sort a)) args
IsWithinLimits d (item.Table name key sort) = (length d.tables < 16) × IsWidth key × IsTrue (is_within_sort sort)
IsWithinLimits d (item.Config name) = ⊤
IsWithinLimits d (item.Rule name vars head demands outcome) = (length d.rules < 1000) × IsRuleWithin (known_in d) vars head demands outcome
IsWithinLimits d _ = ⊤
